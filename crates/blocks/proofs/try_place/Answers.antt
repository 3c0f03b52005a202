-- `try_place` tries a step only where the readings are in its reach; elsewhere the laws say that it cannot fit.
use mathlib.Core.Path.{◌≡◌, sym, ◌∙◌, ap, ap₂, subst}
use mathlib.Core.Bool.{Bool, true, false, cond}
use mathlib.Core.List.{List, [], ◌∷◌, ◌++◌, append-nil}
use Prim.Native.Nat.{ℕ, suc, ◌+◌, ◌*◌, ◌-◌, ◌^◌, ◌<◌, ◌≤◌}
use native.Mathlib.Numerals.{add-one}
use native.Mathlib.Omega.{arith}
use borrow.Rule.Slice.PartMut.{put_mid}
use lib.IntN.{ℤ, pos, nat_abs, ◌*ℤ◌}
use lib.ListN.{length, take, drop, set, length-set, length-take, length-drop, drop_of_length-le}
use lib.Signed.{◌≤ℤ◌}
use mir.Syntax.{w32, w64}
use mir.Val.{SFits, to_z, of_z}
use mir.Facts.{to_z-of_z}
use Rattle.integers.specs.Laws.Linear.{Z}
use Rattle.integers.specs.Laws.Sizes.{fits-mag}
use Rattle.integers.specs.Vectors.{small}
use Rattle.layers.specs.E8.{e8, nearest, digits8}
use Rattle.layers.proofs.Laws.Bases.{base-two}
use Rattle.layers.proofs.Laws.E8.{digits8-long}
use Rattle.layers.specs.Sizes.{width}
use Rattle.blocks.specs.declared.Trial.{Trial}
use Rattle.blocks.specs.Laws.Sizes.{divisor-positive, divisor-is, reach-under}
use Rattle.blocks.specs.Laws.Theorems.{past-reach}
use Rattle.blocks.specs.Trials.{nothing_left, point_at, fits, code_at, in_reach, trial8}
use Rattle.blocks.proofs.try_place.Goals as goal
use Rattle.blocks.proofs.try_place.Goals.{After-nothing_left, After-try_step-found, Start, Then-small}
use Rattle.blocks.proofs.try_place.Lts as lts
use Rattle.blocks.proofs.try_place.Tie as tie
use Rattle.blocks.proofs.try_place.Reads as reads

abbrev After-small : Type 0
After-small = lts.After-small tie.the-claims reads.Pre reads.Post tie.handed_clauses

-- an entry is written to the front of o, and f over the rest of it, which is lent for that and comes back
written_over : {A : Type 0} (f o : List A) (t : A) → length o ≡ length f + 1 → let x = set o 0 t in let k = length x - 1 in put_mid 1 k x (f ++ drop (length f) (take k (drop 1 x))) ≡ t ∷ f
written_over f [] t h = absurd (omega arith)
written_over {A} f (y ∷ o) t h =
    let k : ℕ = suc (length o) - 1 in
    let none : drop (length f) (take k o) ≡ [] = drop_of_length-le (take k o) {i = length f} (simp length-take (omega arith)) in
    let past : drop k o ≡ [] = drop_of_length-le o {i = k} (omega arith) in
    ap₂ (λ (a b : List A). t ∷ ((f ++ a) ++ b)) none past ∙ ap (λ (g : List A). t ∷ g) (append-nil (f ++ []) ∙ append-nil f)

module _ (s : Start) where
  abbrev x : List ℤ
  x = s.args.x.now

  abbrev z : ℤ
  z = s.args.s

  abbrev t : ℕ
  t = s.args.t

  abbrev q : ℕ
  q = nat_abs s.args.q

  abbrev m : ℕ
  m = s.args.m

  abbrev found : List ℕ
  found = s.args.out.now

  two : 2 ≤ q
  two = base-two s.args.q s.requires.4

  -- the reach of the step
  abbrev far : ℤ
  far = z *ℤ s.args.reach

  far-is : far ≡ pos (nat_abs z * (width q m + 1))
  far-is = ap₂ ◌*ℤ◌ (sym (divisor-is z s.requires.1)) s.requires.3

  under : nat_abs z * (width q m + 1) < 2 ^ 31
  under = reach-under q m z two s.requires.5 s.requires.1

  far64 : SFits w64 far
  far64 = subst (SFits w64) (sym far-is) (fits-mag w64 (pos (nat_abs z * (width q m + 1))) (omega (arith, under)))

  far32 : SFits w32 far
  far32 = subst (SFits w32) (sym far-is) (fits-mag w32 (pos (nat_abs z * (width q m + 1))) under)

  not_negative : pos 0 ≤ℤ far
  not_negative = subst (λ (y : ℤ). pos 0 ≤ℤ y) (sym far-is) (omega (arith, Z))

  out-long : length (set found 0 t) ≡ 8 * m + 1
  out-long = length-set found 0 t ∙ s.requires.6

  same : {A : Type 0} (f : ℕ → ℤ → A) → f (nat_abs (to_z w64 (of_z w64 s.args.q))) (to_z w64 (of_z w64 z)) ≡ f q z
  same f = ap₂ (λ (a b : ℤ). f (nat_abs a) b) (to_z-of_z s.ranges.q) (to_z-of_z s.ranges.s)

  abbrev bytes : List ℕ
  bytes = code_at e8 nearest q m t z x

  -- the room after, from the test
  room_after : (b : Bool) → in_reach e8 nearest q m z x ≡ b → cond b bytes found ≡ cond (in_reach e8 nearest q m z x) bytes found
  room_after b e = ap (λ (b : Bool). cond b bytes found) (sym e)

pub overflow_mul-s : goal.overflow_mul-s
overflow_mul-s c = let s = c.before in simp (to_z-of_z, s.ranges.s, s.ranges.reach) (far64 s.before)

pub overflow_cast-s : goal.overflow_cast-s
overflow_cast-s c = let s = c.before in simp (to_z-of_z, s.ranges.s, s.ranges.reach, far64 s.before) (far32 s.before)

pub small-requires : goal.small-requires
small-requires c = let s = c.before in simp (to_z-of_z, s.ranges.s, s.ranges.reach, far64 s.before, far32 s.before) (not_negative s.before)

-- what the test said
near-is : (c : After-small) → let s = c.before.before in c.small.result ≡ in_reach e8 nearest (q s) (m s) (z s) (x s)
near-is c = let s = c.before.before in (simp (to_z-of_z, s.ranges.s, s.ranges.reach, far64 s, far32 s) at c.small.ensures) ∙ ap (λ (y : ℤ). small (nat_abs y) (x s)) (far-is s)

pub overflow_cast-out : goal.overflow_cast-out
overflow_cast-out c = record { fits = omega (arith, c.before.before.before.requires.2) }

pub bounds-out-0 : goal.bounds-out-0
bounds-out-0 c = omega (arith, c.before.before.before.requires.6)

pub slice_bounds-try_step-count : goal.slice_bounds-try_step-count
slice_bounds-try_step-count c = omega (arith, out-long c.before.before.before)

pub slice_bounds-try_step-start : goal.slice_bounds-try_step-start
slice_bounds-try_step-start c = omega (arith, out-long c.before.before.before)

pub try_step-found-requires : goal.try_step-found-requires
try_step-found-requires c = let s = c.before.before.before.before in simp (to_z-of_z, s.ranges.s, s.ranges.q, length-take, length-drop) (s.requires.0, s.requires.1, s.requires.4, omega (arith, out-long s))

-- what the step made of the block, and of the bytes
module _ (c : After-nothing_left) where
  abbrev made : After-try_step-found
  made = c.before.before.before.before.before.before

  abbrev near : Then-small
  near = made.before.before

  abbrev s : Start
  s = near.before.before.before

  tested : c.nothing_left.result ≡ fits e8 nearest (q s) (m s) (z s) (x s)
  tested = c.nothing_left.ensures ∙ ap (λ (r : Trial). nothing_left r.leftover) (made.try_step-found.ensures.answer ∙ same s (λ (q : ℕ) (z : ℤ). trial8 q (m s) z (x s)))

  abbrev digits : List ℕ
  digits = digits8 (q s) (m s) (point_at e8 nearest (z s) (x s))

  digits_long : length digits ≡ 8 * m s
  digits_long = digits8-long (q s) (m s) (point_at e8 nearest (z s) (x s))

  -- the part that was lent, before and after
  abbrev out : List ℕ
  out = set (found s) 0 (t s)

  abbrev lent : List ℕ
  lent = take (length out - 1) (drop 1 out)

  abbrev part : List ℕ
  part = made.try_step-found.new.out

  part-is : part ≡ digits ++ drop (length digits) lent
  part-is =
      made.try_step-found.ensures.room ∙ same s (λ (q : ℕ) (z : ℤ). digits8 q (m s) (point_at e8 nearest z (x s)) ++ drop (8 * m s) lent)
      ∙ ap (λ (n : ℕ). digits ++ drop n lent) (sym digits_long)

  room-is : put_mid 1 (length out - 1) out part ≡ bytes s
  room-is = ap (put_mid 1 (length out - 1) out) part-is ∙ written_over digits (found s) (t s) (s.requires.6 ∙ ap (λ (n : ℕ). n + 1) (sym digits_long))

  code-long : length (bytes s) ≡ length (found s)
  code-long = ap suc digits_long ∙ sym (s.requires.6 ∙ add-one (8 * m s))

pub shape_of-out-then-small : goal.shape_of-out-then-small
shape_of-out-then-small c = ap length (room-is c) ∙ code-long c

pub returns-then-small : goal.returns-then-small
returns-then-small c = record { answer = tested c; room = room-is c ∙ room_after (s c) true (sym (near-is (near c).before) ∙ (near c).if-small.true) }

pub returns : goal.returns
returns c = let s = c.before.before.before.before in let e = sym (near-is c.before.before) ∙ c.if-small.false in let l : 2 ≤ q s = two s in
    record { answer = sym (past-reach e8 nearest (x s) s.requires.0.long (q s) (m s) (omega arith) (z s) (divisor-positive (z s) s.requires.1) e); room = room_after s false e }
