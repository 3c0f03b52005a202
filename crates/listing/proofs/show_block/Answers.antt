-- `show_block` codes the eight X and puts the listing of the code, or the refusal that coding gives.
use Rattle.std.specs.Prelude.{Ok}
use Rattle.refusals.specs.Answers.{Answer}
use Rattle.refusals.specs.Verdicts.{verdict_of}
use Rattle.std.proofs.Common.{◌≡◌, ◌∙◌, sym, ap, subst, arith, List, ℤ, ℕ, ◌+◌, ◌-◌, length, replicate, take, drop}
use Rattle.std.proofs.Math.Path.{ap₂, subst₂}
use Rattle.std.proofs.Math.IntN.{nat_abs}
use Rattle.std.proofs.lemmas.Int.{to_z-of_z}
use mir.Syntax.{w64}
use mir.Val.{SFits, to_z, of_z}
use Rattle.blocks.specs.Trials.{block_code}
use Rattle.layers.specs.Code.{eight_of}
use Rattle.layers.specs.E8.{e8, nearest}
use Rattle.refusals.specs.declared.settings.Settings.{Settings}
use Rattle.records.specs.Eight.Codes.{Coder, IsBlock, block_size}
use Rattle.records.specs.Eight.Asked.{CoderTaken}
use Rattle.records.specs.Eight.Vectors.{units_hour}
use Rattle.encoding.specs.Encode.{encoded, encoded_room}
use Rattle.listing.specs.Laws.Order.{shown-place, shown-taken, shown-block, shown-code, encoded-verdict, block_refused, block-accepted}
use Rattle.listing.specs.Listing.{block_listing, check_shown, block_shown}
use Rattle.listing.specs.Pages.{Puts}
use Rattle.listing.proofs.show_block.Goals as goal

-- what coding answers
verdict-is : (s : Settings) (steps X : List ℤ) (a : Answer) → a ≡ encoded (eight_of s) s steps (units_hour X) 37 → verdict_of a ≡ check_shown s steps X
unfolding check_shown
verdict-is s steps X a e = ap verdict_of e ∙ encoded-verdict s steps (units_hour X) 37

pub put_refusal-requires : goal.put_refusal-requires
put_refusal-requires c =
    let s = c.args.s in let steps = c.args.steps.now in let X = c.args.x.now in
    (omega (arith, shown-place s steps X c.requires.0 _ (sym (verdict-is s steps X _ c.encode_units.ensures.answer) ∙ ap verdict_of c.in-Err.is)), c.requires.1)

-- nothing is refused
module _ (s : Settings) (steps X : List ℤ) (eight : length X ≡ 8) (a : Answer) (answered : a ≡ encoded (eight_of s) s steps (units_hour X) 37) (passed : verdict_of a ≡ Ok tt) where
  accepted : check_shown s steps X ≡ Ok tt
  accepted = sym (verdict-is s steps X a answered) ∙ passed

  taken : CoderTaken s steps
  taken = shown-taken s steps X eight accepted

  abbrev code : List ℕ
  code = block_code e8 nearest (nat_abs s.q) (nat_abs s.m) steps X

  -- the bytes that are lent are the block's
  code_is : (room : List ℕ) → room ≡ encoded_room (eight_of s) s steps (units_hour X) (replicate 37 0) → (n : ℕ) → n ≡ block_size (nat_abs s.m) → take (4 + n - 4) (drop 4 room) ≡ code
  code_is room r n h = let k : 4 + n - 4 ≡ block_size (nat_abs s.m) = omega (arith, h) in ap₂ (λ (n : ℕ) (f : List ℕ). take n (drop 4 f)) k r ∙ shown-code s steps X eight accepted

pub layers-m-requires : goal.layers-m-requires
layers-m-requires c = (taken c.args.s c.args.steps.now c.args.x.now c.requires.0 _ c.encode_units.ensures.answer (ap verdict_of c.in-Ok.is)).allowed

pub block_size-end-requires : goal.block_size-end-requires
block_size-end-requires c = omega (arith, c.layers-m.ensures, (taken c.args.s c.args.steps.now c.args.x.now c.requires.0 _ c.encode_units.ensures.answer (ap verdict_of c.in-Ok.is)).allowed.m-most)

pub base-requires : goal.base-requires
base-requires c = (taken c.args.s c.args.steps.now c.args.x.now c.requires.0 _ c.encode_units.ensures.answer (ap verdict_of c.in-Ok.is)).allowed

pub slice_bounds-put_block-end : goal.slice_bounds-put_block-end
slice_bounds-put_block-end c =
    omega (arith, c.block_size-end.ensures ∙ ap block_size c.layers-m.ensures, (taken c.args.s c.args.steps.now c.args.x.now c.requires.0 _ c.encode_units.ensures.answer (ap verdict_of c.in-Ok.is)).allowed.m-most, c.encode_units.auto.out)

pub put_block-requires : goal.put_block-requires
put_block-requires c =
    let s = c.args.s in let steps = c.args.steps.now in let X = c.args.x.now in let e = c.encode_units.ensures in
    let f : SFits w64 c.base.result = record { sfits = c.base.type_inv } in let q : to_z w64 (of_z w64 c.base.result) ≡ s.q = to_z-of_z w64 _ f ∙ c.base.ensures in let m = c.layers-m.ensures in
    let lent = code_is s steps X c.requires.0 _ e.answer (ap verdict_of c.in-Ok.is) _ e.room _ (c.block_size-end.ensures ∙ ap block_size m) in (
      subst₂ (λ (q : ℤ) (m : ℕ). Coder q m steps) (sym q) (sym m) (taken s steps X c.requires.0 _ e.answer (ap verdict_of c.in-Ok.is)).coder,
      subst (IsBlock (length steps) (nat_abs (to_z w64 (of_z w64 c.base.result))) c.layers-m.result) (sym lent)
          (subst₂ (λ (q : ℤ) (m : ℕ). IsBlock (length steps) (nat_abs q) m (block_code e8 nearest (nat_abs s.q) (nat_abs s.m) steps X)) (sym q) (sym m) (shown-block s steps X c.requires.0 (accepted s steps X c.requires.0 _ e.answer (ap verdict_of c.in-Ok.is)))),
      c.requires.1,
    )

pub returns-in-Err : goal.returns-in-Err
returns-in-Err c =
    let s = c.args.s in let steps = c.args.steps.now in let X = c.args.x.now in
    let shown = block_refused s steps X _ (sym (verdict-is s steps X _ c.encode_units.ensures.answer) ∙ ap verdict_of c.in-Err.is) in
    subst (Puts c.args.page.now c.put_refusal.new.page) shown c.put_refusal.ensures

pub returns-in-Ok : goal.returns-in-Ok
returns-in-Ok c =
    let s = c.args.s in let steps = c.args.steps.now in let X = c.args.x.now in let e = c.encode_units.ensures in let put = take (4 + c.block_size-end.result - 4) (drop 4 c.encode_units.new.out) in
    let f : SFits w64 c.base.result = record { sfits = c.base.type_inv } in let q : to_z w64 (of_z w64 c.base.result) ≡ s.q = to_z-of_z w64 _ f ∙ c.base.ensures in let m = c.layers-m.ensures in
    let lent = code_is s steps X c.requires.0 _ e.answer (ap verdict_of c.in-Ok.is) _ e.room _ (c.block_size-end.ensures ∙ ap block_size m) in
    let shown : block_listing (nat_abs (to_z w64 (of_z w64 c.base.result))) c.layers-m.result steps put ≡ block_shown s steps X
    = ap₂ (λ (q : ℤ) (m : ℕ). block_listing (nat_abs q) m steps put) q m ∙ ap (block_listing (nat_abs s.q) (nat_abs s.m) steps) lent
    ∙ block-accepted s steps X (accepted s steps X c.requires.0 _ e.answer (ap verdict_of c.in-Ok.is)) in
    subst (Puts c.args.page.now c.put_block.new.page) shown c.put_block.ensures
