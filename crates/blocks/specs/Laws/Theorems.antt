-- What a block's bytes say, for any lattice, rule, q and number of layers m.
use Rattle.std.specs.Prelude.{◌≡◌, refl, ◌↔◌, Bool, true, false, List, ℕ, suc, ◌+◌, ◌*◌, ◌<◌, ◌≤◌, ℤ, pos, nat_abs, ◌-ℤ◌, ◌*ℤ◌, length, get_or, drop, ◌<ℤ◌}
use Rattle.std.proofs.Common.{sym, ◌∙◌, ap, subst, le_refl, add-one, arith}
use Rattle.std.proofs.lemmas.Bool.{false≢true}
use Rattle.integers.specs.Laws.Sizes.{abs-mul, abs-mul-le, abs-near}
use Rattle.integers.specs.Laws.Sums.{length-scale_v, at-scale}
use Rattle.integers.specs.Laws.Tests.{bounded-small}
use Rattle.integers.specs.Vectors.{«at», zeros, add_v, scale_v, Bounded}
use Rattle.layers.specs.Digits.{IsLayers, IsCode, cut}
use Rattle.layers.specs.E8.{e8, nearest}
use Rattle.layers.proofs.Laws.Bases.{base-two}
use Rattle.layers.proofs.Laws.E8.{digits8-long}
use Rattle.layers.specs.Laws.Rows.{cut-joined, joined-code}
use Rattle.layers.proofs.Laws.Theorems.{leftover-in, digits_are, fits_iff}
use Rattle.layers.proofs.Laws.Widths.{bounded-within, decode-small}
use Rattle.layers.specs.Layers.{digits, leftover, decode}
use Rattle.layers.specs.Rule.{Lattice, Rule}
use Rattle.layers.specs.Sizes.{width, Base}
use Rattle.blocks.specs.Laws.Fitting.{nothing_left_lem, zeros-nothing, first_fits, tried-code}
use Rattle.blocks.specs.Laws.Sizes.{divisor-positive}
use Rattle.blocks.specs.Limits.{Block, UsedSteps}
use Rattle.blocks.specs.Trials.{nothing_left, point_at, fits, first_fitting, block_code, in_reach, tried_room}

-- a reading x that s times half a coordinate y is near to, where y is at most 2 W
reading-near : (s x y : ℤ) (W : ℕ) → nat_abs (pos 2 *ℤ x -ℤ s *ℤ y) ≤ 2 * nat_abs s → nat_abs y ≤ 2 * W → nat_abs x ≤ nat_abs s * (W + 1)
reading-near s x y W h k = let d : ℤ = pos 2 *ℤ x in
    omega (arith, h, abs-near d (s *ℤ y), abs-mul (pos 2) x, abs-mul-le s y {m = nat_abs s} {n = 2 * W} (le_refl (nat_abs s)) k)

module _ (L : Lattice) (R : Rule L) (X : List ℤ) (long : length X ≡ L.size) where
  module _ (s : ℤ) (s> : pos 0 <ℤ s) where
    twice-long : length (scale_v (pos 2) X) ≡ L.size
    twice-long = length-scale_v (pos 2) X ∙ long

    pub point-in : L.In (point_at L R s X)
    point-in = R.member s s> (scale_v (pos 2) X) twice-long

    -- readings moved by s times a point have their point moved by it, whether or not the step fits; as v is doubled, 2 X' = 2 X + s v
    pub readings-move : (X' v : List ℤ) → L.In v → scale_v (pos 2) X' ≡ add_v (scale_v (pos 2) X) (scale_v s v) → point_at L R s X' ≡ add_v (point_at L R s X) v
    readings-move X' v h e = ap (R.round s) e ∙ R.moves s s> (scale_v (pos 2) X) v twice-long h

  module _ (q m : ℕ) (q> : 0 < q) where
    -- a step fits exactly where the digits of the point decode to it
    pub fits-decodes : (s : ℤ) → pos 0 <ℤ s → (fits L R q m s X ≡ true) ↔ (decode L R q (digits L R q m (point_at L R s X)) ≡ point_at L R s X)
    fits-decodes s s> =
        let e : List ℤ = point_at L R s X in let g : List ℤ = leftover L R q m e in let h : L.In e = point-in s s> in
        let k = fits_iff L R q q> m e h in (
          λ t. k.0 (nothing_left_lem g t ∙ ap zeros (L.long g (leftover-in L R q q> m e h))),
          λ d. ap nothing_left (k.1 d) ∙ zeros-nothing L.size,
        )

    module _ (s : ℤ) (s> : pos 0 <ℤ s) where
      -- where a step fits no coordinate of the point is over 2 W
      fitting-small : fits L R q m s X ≡ true → Bounded (2 * width q m) (point_at L R s X)
      fitting-small t = let e : List ℤ = point_at L R s X in
          subst (Bounded (2 * width q m)) ((fits-decodes s s>).0 t) (decode-small L R q q> m (digits L R q m e) (digits_are L R q q> m e (point-in s s>)))

      doubled-close : (i : ℕ) → i < L.size → nat_abs (pos 2 *ℤ «at» X i -ℤ s *ℤ «at» (point_at L R s X) i) ≤ 2 * nat_abs s
      doubled-close i l = rw (← at-scale (pos 2) X i) (R.close s s> (scale_v (pos 2) X) (twice-long s s>) i l)

      -- so it fits only where no reading is past s (W + 1)
      pub fits-in-reach : fits L R q m s X ≡ true → in_reach L R q m s X ≡ true
      fits-in-reach t = let B : ℕ = nat_abs s * (width q m + 1) in
          bounded-small B X (bounded-within L.size B X long λ i l. reading-near s («at» X i) («at» (point_at L R s X) i) (width q m) (doubled-close i l) (fitting-small t i))

      -- and one that X is not in reach of overloads
      pub past-reach : in_reach L R q m s X ≡ false → fits L R q m s X ≡ false
      past-reach r = go (fits L R q m s X) refl
        where
          go : (b : Bool) → fits L R q m s X ≡ b → b ≡ false
          go true e = absurd (false≢true (sym r ∙ fits-in-reach e))
          go false e = refl

    module _ (steps : List ℤ) (positive : (i : ℕ) → i < length steps → pos 0 <ℤ «at» steps i) (h : first_fitting L R q m steps X < length steps) where
      abbrev code : List ℕ
      code = block_code L R q m steps X

      abbrev t : ℕ
      t = get_or code 0 0

      abbrev e : List ℤ
      e = point_at L R («at» steps t) X

      layers : IsLayers L.size q m (digits L R q m e)
      layers = digits_are L R q q> m e (point-in («at» steps t) (positive t h))

      -- where a step fits, a block's bytes are a byte and m layers of digits
      pub block-digits : IsCode L.size q m (drop 1 code)
      block-digits = joined-code L.size q m (digits L R q m e) layers

      -- the byte is the place of the first step that fits, and the digits decode to the point that X rounds to at that step
      pub block-decodes : (t ≡ first_fitting L R q m steps X) × (decode L R q (cut L.size m (drop 1 code)) ≡ e)
      block-decodes = (refl, ap (decode L R q) (cut-joined L.size q m (digits L R q m e) layers) ∙ (fits-decodes («at» steps t) (positive t h)).0 (first_fits L R q m X steps h))

      -- the bytes that the trials leave are the block's
      pub tried-block : (out : List ℕ) → tried_room L R q m 0 steps X out ≡ code
      tried-block out = tried-code L R q m X steps out h (fits-in-reach («at» steps t) (positive t h) (first_fits L R q m X steps h))

-- in E8 a block's bytes are as many as the layers ask for, whether or not a step fits
pub block-long8 : (q m : ℕ) (steps X : List ℤ) → length (block_code e8 nearest q m steps X) ≡ 8 * m + 1
block-long8 q m steps X = let s : ℤ = «at» steps (first_fitting e8 nearest q m steps X) in ap suc (digits8-long q m (point_at e8 nearest s X)) ∙ sym (add-one (8 * m))

-- and where one fits, the bytes that the trials leave are the block's
pub tried-block8 : (q : ℤ) (m : ℕ) (steps X : List ℤ) → Base q → UsedSteps steps → Block X → first_fitting e8 nearest (nat_abs q) m steps X < length steps → (out : List ℕ) → tried_room e8 nearest (nat_abs q) m 0 steps X out ≡ block_code e8 nearest (nat_abs q) m steps X
tried-block8 q m steps X b u x h = let two : 2 ≤ nat_abs q = base-two q b in
    tried-block e8 nearest X x.long (nat_abs q) m (omega arith) steps (λ i l. divisor-positive («at» steps i) (u.each i l)) h
