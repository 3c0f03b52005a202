-- What is printed is short: no number of it has more than ten digits, so that 1,024 bytes hold it.
use Rattle.std.specs.Prelude.{◌≡◌, Bool, true, false, List, [], ◌∷◌, ◌++◌, map, ℕ, zero, suc, ◌+◌, ◌*◌, ◌-◌, ◌^◌, ◌≤◌, ℤ, pos, negsuc, nat_abs, length, get_or, drop, Ok, Err}
use Rattle.std.proofs.Math.Path.{refl}
use Rattle.std.proofs.Common.{◌∙◌, ap, subst, arith, length-append}
use Rattle.std.proofs.lemmas.List.{length-map}
use Rattle.integers.specs.Vectors.{Bounded, Sized}
use Rattle.blocks.specs.Trials.{block_code}
use Rattle.layers.specs.Digits.{IsLayer, IsLayers, cut}
use Rattle.layers.specs.E8.{e8, nearest, decode8}
use Rattle.layers.proofs.Laws.Bases.{digits-sized, decode8-sized}
use Rattle.layers.specs.Laws.Rows.{cut-layers}
use Rattle.refusals.specs.declared.settings.Settings.{Settings}
use Rattle.refusals.specs.declared.Refusal.{Refusal}
use Rattle.refusals.specs.declared.Refusal.TheVariants.{Settings as BadSettings, Steps, Size, Missing, OutOfRange, Overload, Byte, Table, Point, Record, EmptyStore}
use Rattle.refusals.specs.Verdicts.{row_of, spot_of, unless, Verdict}
use Rattle.records.specs.Eight.Codes.{Coder, IsBlock, step_of, whole_point}
use Rattle.listing.specs.Laws.Decimal.{decimal-long}
use Rattle.listing.specs.Laws.Order.{shown-place, shown-taken, shown-block}
use Rattle.texts.specs.Laws.Texts.{formed-counts}
use Rattle.listing.specs.Listing.{written, fields, line, layer_line, layer_lines, block_listing, refusal_line, printed, check_shown, block_shown, shown, room_most}
use Rattle.texts.specs.Text.{bytes, line_of, numbers, settings_in, well_formed}

-- every number of a list is at most 2^32 in magnitude
abbrev pub Small : List ℤ → Type 0
Small l = Bounded (2 ^ 32) l

written-most : (z : ℤ) → nat_abs z ≤ 2 ^ 32 → length (written z) ≤ 11
written-most (pos n) h = omega (arith, decimal-long 9 n (omega arith))
written-most (negsuc n) h = omega (arith, decimal-long 9 (suc n) (omega arith))

fields-most : (l : List ℤ) → Small l → length (fields l) ≤ 12 * length l
fields-most [] h = omega arith
fields-most (z ∷ l) h = simp length-append (omega (arith, written-most z (h 0), fields-most l (λ i. h (suc i))))

line-most : (name : List ℕ) (l : List ℤ) → Small l → length (line name l) ≤ length name + 12 * length l + 1
line-most name l h = simp length-append (omega (arith, fields-most l h))

-- ---- layers

layer-small : (k q : ℕ) (ds : List ℕ) → k ≤ 256 → q ≤ 2 ^ 16 → IsLayer 8 q ds → Small (pos k ∷ map pos ds)
layer-small k q ds h m l zero = omega arith
layer-small k q ds h m l (suc i) = omega (arith, (digits-sized 8 q ds l).small i)

layers-most : (k q m : ℕ) (l : List (List ℕ)) → k + m ≤ 256 → q ≤ 2 ^ 16 → IsLayers 8 q m l → length (layer_lines k l) ≤ 114 * m
layers-most k q zero [] h b f = omega arith
layers-most k q zero (ds ∷ l) h b f = absurd f
layers-most k q (suc m) [] h b f = absurd f
layers-most k q (suc m) (ds ∷ l) h b f =
    omega (arith, length-append (layer_line k ds) (layer_lines (suc k) l), line-most (bytes "layer") (pos k ∷ map pos ds) (layer-small k q ds (omega arith) b f.0), length-map ds pos, f.0.long, layers-most (suc k) q m l (omega arith) b f.1)

-- ---- a block

module _ (q : ℤ) (m : ℕ) (steps : List ℤ) (coder : Coder q m steps) (b : List ℕ) (block : IsBlock (length steps) (nat_abs q) m b) where
  pub step_small : Small (pos (get_or b 0 0) ∷ step_of steps b ∷ [])
  step_small zero = omega (arith, block.first, coder.listed.few)
  step_small (suc zero) = omega (arith, (coder.listed.each (get_or b 0 0) block.first).most)
  step_small (suc (suc i)) = omega arith

  point-sized : Sized 8 (2 ^ 30) (whole_point (nat_abs q) m b)
  point-sized = let all : m - 0 ≡ m = omega arith in
      subst (λ (k : ℕ). Sized 8 (2 ^ 30) (decode8 (nat_abs q) k (drop 1 b))) all (decode8-sized q coder.base m (omega (arith, coder.power)) (drop 1 b) block.code 0 (omega arith))

  pub point-small : Small (whole_point (nat_abs q) m b)
  point-small i = omega (arith, point-sized.small i)

  -- its lines
  abbrev pub step_line : List ℕ
  step_line = line (bytes "step") (pos (get_or b 0 0) ∷ step_of steps b ∷ [])

  abbrev pub layers_lines : List ℕ
  layers_lines = layer_lines 0 (cut 8 m (drop 1 b))

  abbrev pub point_line : List ℕ
  point_line = line (bytes "point") (whole_point (nat_abs q) m b)

  pub listing-is : block_listing (nat_abs q) m steps b ≡ step_line ++ (layers_lines ++ point_line)
  unfolding block_listing
  listing-is = refl

  pub listing-long : length (block_listing (nat_abs q) m steps b) ≡ length step_line + length layers_lines + length point_line
  listing-long = ap length listing-is ∙ omega (arith, length-append step_line (layers_lines ++ point_line), length-append layers_lines point_line)

  pub listing-most : length (block_listing (nat_abs q) m steps b) ≤ room_most
  listing-most =
      let step = line-most (bytes "step") (pos (get_or b 0 0) ∷ step_of steps b ∷ []) step_small in let point = line-most (bytes "point") (whole_point (nat_abs q) m b) point-small in
      let layers = layers-most 0 (nat_abs q) m (cut 8 m (drop 1 b)) (omega (arith, coder.few)) (omega (arith, coder.base.most)) (cut-layers 8 (nat_abs q) m (drop 1 b) block.code) in
      omega (arith, listing-long, step, layers, point, point-sized.long, coder.few)

-- ---- a refusal

pub row-most : (r : Refusal) → row_of r ≤ 11
row-most BadSettings = omega arith
row-most (Steps p) = omega arith
row-most (Size p) = omega arith
row-most (Missing p) = omega arith
row-most (OutOfRange p) = omega arith
row-most (Overload p) = omega arith
row-most (Byte p) = omega arith
row-most Table = omega arith
row-most Point = omega arith
row-most (Record p) = omega arith
row-most EmptyStore = omega arith

module _ (r : Refusal) (h : spot_of r ≤ 2 ^ 32) where
  pub refusal-small : Small (pos (row_of r) ∷ pos (spot_of r) ∷ [])
  refusal-small zero = omega (arith, row-most r)
  refusal-small (suc zero) = omega arith
  refusal-small (suc (suc i)) = omega arith

  pub refusal-most : length (refusal_line r) ≤ room_most
  refusal-most = omega (arith, line-most (bytes "refused") (pos (row_of r) ∷ pos (spot_of r) ∷ []) refusal-small)

-- ---- all of it

pub block-shown-most : (c : Settings) (steps X : List ℤ) → length X ≡ 8 → length (block_shown c steps X) ≤ room_most
unfolding block_shown
block-shown-most c steps X eight = go (check_shown c steps X) refl
  where
    go : (v : Verdict) → check_shown c steps X ≡ v → let q = nat_abs c.q in let m = nat_abs c.m in length (printed v (block_listing q m steps (block_code e8 nearest q m steps X))) ≤ room_most
    go (Ok u) e = listing-most c.q (nat_abs c.m) steps (shown-taken c steps X eight e).coder _ (shown-block c steps X eight e)
    go (Err r) e = refusal-most r (omega (arith, shown-place c steps X eight r e))

-- whatever the text is
pub shown-most : (t : List ℕ) → length (shown t) ≤ room_most
unfolding shown
shown-most t = go (well_formed t) refl
  where
    go : (b : Bool) → well_formed t ≡ b → length (printed (unless b (Record 0)) (block_shown (settings_in (line_of t 0)) (numbers (line_of t 1)) (numbers (line_of t 2)))) ≤ room_most
    go true e = block-shown-most (settings_in (line_of t 0)) (numbers (line_of t 1)) (numbers (line_of t 2)) (formed-counts t e).1
    go false e = refusal-most (Record 0) (omega arith)
