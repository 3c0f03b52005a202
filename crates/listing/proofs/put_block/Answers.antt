-- `put_block` puts the step's line, the layers' and the point's, each after the one before.
use Rattle.std.proofs.Common.{◌≡◌, ◌∙◌, sym, ap, subst, arith, List, ℤ, ℕ, pos, [], ◌∷◌, ◌++◌, ◌-◌, ◌^◌, ◌<◌, length, get_or, take, drop, length-drop, length-append}
use Rattle.std.proofs.Math.Path.{ap₂}
use Rattle.std.proofs.Math.IntN.{nat_abs}
use Rattle.std.proofs.lemmas.Int.{to_z-of_z}
use mir.Syntax.{w64}
use mir.Val.{SFits, to_z, of_z}
use mir.Facts.{to_z_pos}
use Rattle.integers.specs.Laws.Loops.{rest-whole}
use Rattle.layers.specs.Digits.{cut}
use Rattle.layers.specs.E8.{decode8}
use Rattle.records.specs.Eight.Codes.{Coder, IsBlock, whole_point}
use Rattle.listing.specs.Laws.Lengths.{step_line, layers_lines, point_line, listing-is, listing-most}
use Rattle.listing.specs.declared.lines.Page.{Page}
use Rattle.listing.specs.Laws.Pages.{puts-both, puts-fits}
use Rattle.listing.specs.Pages.{HasRoom, Puts}
use Rattle.listing.specs.Listing.{line, layer_lines, block_listing, room_most}
use Rattle.texts.specs.Text.{bytes}
use Rattle.listing.proofs.put_block.Goals as goal

-- T and its step, as they are cast
cast : (t : ℕ) (s z : ℤ) → t < 2 ^ 8 → SFits w64 s → s ≡ z → to_z w64 t ∷ to_z w64 (of_z w64 s) ∷ [] ≡ pos t ∷ z ∷ []
cast t s z h f e = ap₂ (λ (t s : ℤ). t ∷ s ∷ []) (to_z_pos w64 (omega arith)) (to_z-of_z w64 s f ∙ e)

module _ (q : ℤ) (m : ℕ) (steps : List ℤ) (coder : Coder q m steps) (code : List ℕ) (block : IsBlock (length steps) (nat_abs q) m code) where
  abbrev one : List ℕ
  one = step_line q m steps coder code block

  abbrev two : List ℕ
  two = layers_lines q m steps coder code block

  abbrev three : List ℕ
  three = point_line q m steps coder code block

  -- there is room for the three, and for two after the first
  roomy : (p : Page) → HasRoom p room_most → HasRoom p (length (one ++ (two ++ three)))
  roomy p h = omega (arith, h, listing-most q m steps coder code block, ap length (listing-is q m steps coder code block))

  after : (p r : Page) → HasRoom p room_most → Puts p r one → HasRoom r (length (two ++ three))
  after p r h step = puts-fits p r one (two ++ three) step (roomy p h)

  -- and they are the listing
  whole : (p r s t : Page) → Puts p r one → Puts r s two → Puts s t three → Puts p t (block_listing (nat_abs q) m steps code)
  whole p r s t step layers point = rw (listing-is q m steps coder code block) (puts-both p r one (two ++ three) step t (puts-both r s two three layers t point))

  -- the layers, as they are lent
  layers-are : layer_lines 0 (cut 8 m (take (length code - 1) (drop 1 code))) ≡ two
  layers-are = ap (λ (f : List ℕ). layer_lines 0 (cut 8 m f)) (rest-whole 1 code)

  -- and the point, as it is decoded
  point-is : (z : ℤ) → z ≡ q → decode8 (nat_abs z) m (take (length code - 1) (drop 1 code)) ≡ whole_point (nat_abs q) m code
  point-is z e = ap₂ (λ (z : ℤ) (f : List ℕ). decode8 (nat_abs z) m f) e (rest-whole 1 code)

pub line-requires : goal.line-requires
line-requires c =
    let q = c.args.q in let m = c.args.m in let steps = c.args.steps.now in let code = c.args.code.now in let p = c.args.page.now in let h = c.requires in
    let f : SFits w64 c.step_of.result = record { sfits = c.step_of.type_inv } in let numbers = cast (get_or code 0 0) _ _ (omega (arith, c.type_inv.code 0)) f c.step_of.ensures in
    subst (λ (l : List ℤ). HasRoom p (length (line (bytes "step") l))) (sym numbers) (omega (arith, roomy q m steps h.0 code h.1 p h.2, length-append (one q m steps h.0 code h.1) (two q m steps h.0 code h.1 ++ three q m steps h.0 code h.1)))

pub layers-requires : goal.layers-requires
layers-requires c =
    let q = c.args.q in let m = c.args.m in let steps = c.args.steps.now in let code = c.args.code.now in let p = c.args.page.now in let h = c.requires in
    let f : SFits w64 c.step_of.result = record { sfits = c.step_of.type_inv } in let numbers = cast (get_or code 0 0) _ _ (omega (arith, c.type_inv.code 0)) f c.step_of.ensures in
    let step = subst (λ (l : List ℤ). Puts p c.line.new.self (line (bytes "step") l)) numbers c.line.ensures in
    rw (rest-whole 1 code) (
      omega (arith, h.0.few),
      simp length-drop (omega (arith, h.1.long)),
      omega (arith, after q m steps h.0 code h.1 p c.line.new.self h.2 step, length-append (two q m steps h.0 code h.1) (three q m steps h.0 code h.1)),
    )

pub line-requires-2 : goal.line-requires-2
line-requires-2 c =
    let q = c.args.q in let m = c.args.m in let steps = c.args.steps.now in let code = c.args.code.now in let p = c.args.page.now in let h = c.requires in
    let f : SFits w64 c.step_of.result = record { sfits = c.step_of.type_inv } in let numbers = cast (get_or code 0 0) _ _ (omega (arith, c.type_inv.code 0)) f c.step_of.ensures in
    let step = subst (λ (l : List ℤ). Puts p c.line.new.self (line (bytes "step") l)) numbers c.line.ensures in
    let layers = subst (Puts c.line.new.self c.layers.new.self) (layers-are q m steps h.0 code h.1) c.layers.ensures in
    subst (λ (e : List ℤ). HasRoom c.layers.new.self (length (line (bytes "point") e))) (sym (c.decode_one-e.ensures ∙ point-is q m steps h.0 code h.1 _ (to_z-of_z w64 q c.ranges.q)))
    (puts-fits c.line.new.self c.layers.new.self (two q m steps h.0 code h.1) (three q m steps h.0 code h.1) layers (after q m steps h.0 code h.1 p c.line.new.self h.2 step))

pub returns : goal.returns
returns c =
    let q = c.args.q in let m = c.args.m in let steps = c.args.steps.now in let code = c.args.code.now in let p = c.args.page.now in let h = c.requires in
    let f : SFits w64 c.step_of.result = record { sfits = c.step_of.type_inv } in let numbers = cast (get_or code 0 0) _ _ (omega (arith, c.type_inv.code 0)) f c.step_of.ensures in
    let step = subst (λ (l : List ℤ). Puts p c.line.new.self (line (bytes "step") l)) numbers c.line.ensures in
    let layers = subst (Puts c.line.new.self c.layers.new.self) (layers-are q m steps h.0 code h.1) c.layers.ensures in
    whole q m steps h.0 code h.1 p c.line.new.self c.layers.new.self c.line-2.new.self step layers
    (subst (λ (e : List ℤ). Puts c.layers.new.self c.line-2.new.self (line (bytes "point") e)) (c.decode_one-e.ensures ∙ point-is q m steps h.0 code h.1 _ (to_z-of_z w64 q c.ranges.q)) c.line-2.ensures)
