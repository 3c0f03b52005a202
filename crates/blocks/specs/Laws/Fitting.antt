-- Which step is used: the first that fits, and no step fits exactly where the place is past the list.
use Rattle.std.specs.Prelude.{◌≡◌, refl, ◌↔◌, Bool, true, false, cond, List, [], ◌∷◌, ℕ, zero, suc, ◌+◌, ◌<◌, ◌≤◌, eqb, ℤ, pos, negsuc, nat_abs, length, drop}
use Rattle.std.proofs.Common.{sym, ◌∙◌, ap, ap₂, add-one, arith, eqb-true, drop_of_length-le, drop-cons}
use Rattle.std.proofs.lemmas.Bool.{false≢true}
use Rattle.std.proofs.Math.Decide.{dec_le}
use Rattle.integers.specs.Laws.Tests.{and-true}
use Rattle.integers.specs.Vectors.{«at», zeros}
use Rattle.layers.specs.Rule.{Lattice, Rule}
use Rattle.blocks.specs.Trials.{nothing_left, fits, first_fitting, code_at, block_code, in_reach, room_at, tried_room}

-- every entry is 0 exactly where the vector is zeros
pub zero-entry : (x : ℤ) → nat_abs x ≡ 0 → x ≡ pos 0
zero-entry (pos n) h = ap pos h
zero-entry (negsuc n) h = absurd (omega arith)

pub nothing_left_lem : (a : List ℤ) → nothing_left a ≡ true → a ≡ zeros (length a)
nothing_left_lem [] e = refl
nothing_left_lem (x ∷ a) e = let t = and-true (eqb (nat_abs x) 0) (nothing_left a) e in cons (zero-entry x (eqb-true (nat_abs x) 0 t.0)) (nothing_left_lem a t.1)
  where
    cons : {x y : ℤ} {a b : List ℤ} → x ≡ y → a ≡ b → x ∷ a ≡ y ∷ b
    cons p r = cc

pub zeros-nothing : (n : ℕ) → nothing_left (zeros n) ≡ true
zeros-nothing zero = refl
zeros-nothing (suc n) = zeros-nothing n

module _ (L : Lattice) (R : Rule L) (q m : ℕ) (X : List ℤ) where
  abbrev ok : ℤ → Bool
  ok s = fits L R q m s X

  abbrev near : ℤ → Bool
  near s = in_reach L R q m s X

  abbrev T : List ℤ → ℕ
  T l = first_fitting L R q m l X

  -- a loop over the list: what is left of it decides where the step before did not fit
  pub fitting-here : (s : ℤ) (l : List ℤ) → ok s ≡ true → T (s ∷ l) ≡ 0
  fitting-here s l e = ap (λ (b : Bool). cond b 0 (suc (T l))) e

  pub fitting-later : (s : ℤ) (l : List ℤ) → ok s ≡ false → T (s ∷ l) ≡ suc (T l)
  fitting-later s l e = ap (λ (b : Bool). cond b 0 (suc (T l))) e

  -- the room that the step s in the place t leaves for the rest of the list
  pub tried_here : (t : ℕ) (s : ℤ) (l : List ℤ) (out : List ℕ) → near s ≡ true → ok s ≡ true → tried_room L R q m t (s ∷ l) X out ≡ code_at L R q m t s X
  tried_here t s l out r e = ap₂ (λ (a b : Bool). cond a (cond b (code_at L R q m t s X) (tried_room L R q m (suc t) l X (code_at L R q m t s X))) (tried_room L R q m (suc t) l X out)) r e

  pub tried-later : (t : ℕ) (s : ℤ) (l : List ℤ) (out : List ℕ) → near s ≡ true → ok s ≡ false → tried_room L R q m t (s ∷ l) X out ≡ tried_room L R q m (suc t) l X (code_at L R q m t s X)
  tried-later t s l out r e = ap₂ (λ (a b : Bool). cond a (cond b (code_at L R q m t s X) (tried_room L R q m (suc t) l X (code_at L R q m t s X))) (tried_room L R q m (suc t) l X out)) r e

  pub tried-not : (t : ℕ) (s : ℤ) (l : List ℤ) (out : List ℕ) → near s ≡ false → tried_room L R q m t (s ∷ l) X out ≡ tried_room L R q m (suc t) l X out
  tried-not t s l out r = ap (λ (a : Bool). cond a (cond (ok s) (code_at L R q m t s X) (tried_room L R q m (suc t) l X (code_at L R q m t s X))) (tried_room L R q m (suc t) l X out)) r

  -- the step in the place T fits, where there is one
  pub first_fits : (l : List ℤ) → T l < length l → ok («at» l (T l)) ≡ true
  first_fits [] h = absurd (omega arith)
  first_fits (s ∷ l) h = go (ok s) refl (first_fits l)
    where
      go : (b : Bool) → ok s ≡ b → (T l < length l → ok («at» l (T l)) ≡ true) → ok («at» (s ∷ l) (T (s ∷ l))) ≡ true
      go true e rest = ap (λ (t : ℕ). ok («at» (s ∷ l) t)) (fitting-here s l e) ∙ e
      go false e rest = let k : T (s ∷ l) ≡ suc (T l) = fitting-later s l e in ap (λ (t : ℕ). ok («at» (s ∷ l) t)) k ∙ rest (omega arith)

  -- and none before it does
  pub none_before : (l : List ℤ) (j : ℕ) → j < T l → ok («at» l j) ≡ false
  none_before [] j h = absurd (omega arith)
  none_before (s ∷ l) j h = go (ok s) refl j h (none_before l)
    where
      go : (b : Bool) → ok s ≡ b → (j : ℕ) → j < T (s ∷ l) → ((j : ℕ) → j < T l → ok («at» l j) ≡ false) → ok («at» (s ∷ l) j) ≡ false
      go true e j h rest = let k : T (s ∷ l) ≡ 0 = fitting-here s l e in absurd (omega arith)
      go false e zero h rest = e
      go false e (suc j) h rest = let k : T (s ∷ l) ≡ suc (T l) = fitting-later s l e in rest j (omega arith)

  pub fitting-within : (l : List ℤ) → T l ≤ length l
  fitting-within [] = omega arith
  fitting-within (s ∷ l) = go (ok s) refl (fitting-within l)
    where
      go : (b : Bool) → ok s ≡ b → T l ≤ length l → T (s ∷ l) ≤ suc (length l)
      go true e rest = let k : T (s ∷ l) ≡ 0 = fitting-here s l e in omega arith
      go false e rest = let k : T (s ∷ l) ≡ suc (T l) = fitting-later s l e in omega arith

  -- the room then holds the block's bytes, where X is in reach of that step
  tried-from : (t : ℕ) (l : List ℤ) (out : List ℕ) → T l < length l → near («at» l (T l)) ≡ true → tried_room L R q m t l X out ≡ code_at L R q m (t + T l) («at» l (T l)) X
  tried-from t [] out h r = absurd (omega arith)
  tried-from t (s ∷ l) out h r = go (ok s) (near s) refl refl (tried-from (suc t) l)
    where
      go : (b c : Bool) → ok s ≡ b → near s ≡ c
          → ((out : List ℕ) → T l < length l → near («at» l (T l)) ≡ true → tried_room L R q m (suc t) l X out ≡ code_at L R q m (suc t + T l) («at» l (T l)) X)
          → tried_room L R q m t (s ∷ l) X out ≡ code_at L R q m (t + T (s ∷ l)) («at» (s ∷ l) (T (s ∷ l))) X
      go true c e f rest = let k : T (s ∷ l) ≡ 0 = fitting-here s l e in let z : t ≡ t + 0 = omega arith in
          tried_here t s l out (ap (λ (j : ℕ). near («at» (s ∷ l) j)) (sym k) ∙ r) e
          ∙ ap (λ (t : ℕ). code_at L R q m t s X) z ∙ ap (λ (j : ℕ). code_at L R q m (t + j) («at» (s ∷ l) j) X) (sym k)
      go false c e f rest = let k : T (s ∷ l) ≡ suc (T l) = fitting-later s l e in let z : suc t + T l ≡ t + suc (T l) = omega arith in
          let g : near («at» l (T l)) ≡ true = ap (λ (j : ℕ). near («at» (s ∷ l) j)) (sym k) ∙ r in
          passed c f e (λ o. rest o (omega arith) g)
          ∙ ap (λ (t : ℕ). code_at L R q m t («at» l (T l)) X) z ∙ ap (λ (j : ℕ). code_at L R q m (t + j) («at» (s ∷ l) j) X) (sym k)
        where
          passed : (c : Bool) → near s ≡ c → ok s ≡ false → ((o : List ℕ) → tried_room L R q m (suc t) l X o ≡ code_at L R q m (suc t + T l) («at» l (T l)) X)
              → tried_room L R q m t (s ∷ l) X out ≡ code_at L R q m (suc t + T l) («at» l (T l)) X
          passed true f e all = tried-later t s l out f e ∙ all (code_at L R q m t s X)
          passed false f e all = tried-not t s l out f ∙ all out

  pub tried-code : (l : List ℤ) (out : List ℕ) → T l < length l → near («at» l (T l)) ≡ true → tried_room L R q m 0 l X out ≡ block_code L R q m l X
  tried-code l out h r = let z : 0 + T l ≡ T l = omega arith in tried-from 0 l out h r ∙ ap (λ (t : ℕ). code_at L R q m t («at» l (T l)) X) z

  -- some listed step fits exactly where T is within the list
  pub fitting-iff : (l : List ℤ) → (T l < length l) ↔ ((j : ℕ) × (j < length l) × (ok («at» l j) ≡ true))
  fitting-iff l = (λ h. (T l, h, first_fits l h), λ w. some w.0 w.1 w.2)
    where
      some : (j : ℕ) → j < length l → ok («at» l j) ≡ true → T l < length l
      some j h e = elim (dec_le (length l) (T l)) [
        | yes k ↦ absurd (false≢true (sym (none_before l j (omega arith)) ∙ e))
        | no k ↦ omega arith
      ]

-- a loop over the steps, after t turns: those from t on give the place and the bytes that all give
pub record Walked (L : Lattice) (R : Rule L) (q m : ℕ) (X steps : List ℤ) (found : List ℕ) (t : ℕ) (out : List ℕ) : Type 0 where
  pub within : t ≤ length steps
  pub long : length out ≡ length found
  pub place : first_fitting L R q m steps X ≡ t + first_fitting L R q m (drop t steps) X
  pub room : tried_room L R q m 0 steps X found ≡ tried_room L R q m t (drop t steps) X out

module _ (L : Lattice) (R : Rule L) (q m : ℕ) (X steps : List ℤ) (found : List ℕ) where
  pub walked_none : Walked L R q m X steps found 0 found
  walked_none = record { within = omega arith; long = refl; place = omega arith; room = refl }

  module _ (t : ℕ) (out : List ℕ) (w : Walked L R q m X steps found t out) where
    abbrev first : List ℤ → ℕ
    first l = first_fitting L R q m l X

    abbrev s : ℤ
    s = «at» steps t

    abbrev rest : List ℤ
    rest = drop (suc t) steps

    abbrev bytes : List ℕ
    bytes = code_at L R q m t s X

    module _ (h : t < length steps) where
      place_opened : first steps ≡ t + first (s ∷ rest)
      place_opened = w.place ∙ ap (λ (l : List ℤ). t + first l) (drop-cons steps t (pos 0) h)

      room-opened : tried_room L R q m 0 steps X found ≡ tried_room L R q m t (s ∷ rest) X out
      room-opened = w.room ∙ ap (λ (l : List ℤ). tried_room L R q m t l X out) (drop-cons steps t (pos 0) h)

      -- the step in the place t is tried and fits: it is the first, and its bytes stay
      pub walked_here : in_reach L R q m s X ≡ true → fits L R q m s X ≡ true → (t ≡ first steps) × (room_at L R q m t s X out ≡ tried_room L R q m 0 steps X found)
      walked_here r e = let k : first (s ∷ rest) ≡ 0 = fitting-here L R q m X s rest e in
          (omega (arith, place_opened), ap (λ (b : Bool). cond b bytes out) r ∙ sym (room-opened ∙ tried_here L R q m X t s rest out r e))

      -- it does not fit, tried or not: one turn more
      pub walked_more : fits L R q m s X ≡ false → length bytes ≡ length found → Walked L R q m X steps found (t + 1) (room_at L R q m t s X out)
      walked_more e long = go (in_reach L R q m s X) refl
        where
          k : first (s ∷ rest) ≡ suc (first rest)
          k = fitting-later L R q m X s rest e

          go : (b : Bool) → in_reach L R q m s X ≡ b → Walked L R q m X steps found (t + 1) (cond b bytes out)
          go true r = rw (add-one t) (record { within = omega arith; long = long; place = omega (arith, k, place_opened); room = room-opened ∙ tried-later L R q m X t s rest out r e })
          go false r = rw (add-one t) (record { within = omega arith; long = w.long; place = omega (arith, k, place_opened); room = room-opened ∙ tried-not L R q m X t s rest out r })

    -- after the last turn: no step fits, and the bytes of the last one tried stay
    pub walked_all : length steps ≤ t → (t ≡ first steps) × (out ≡ tried_room L R q m 0 steps X found)
    walked_all h = let o : drop t steps ≡ [] = drop_of_length-le steps {i = t} h in let z : t ≡ t + 0 = omega arith in
        (z ∙ sym (w.place ∙ ap (λ (r : List ℤ). t + first r) o), sym (w.room ∙ ap (λ (r : List ℤ). tried_room L R q m t r X out) o))
