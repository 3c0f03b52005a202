-- The rule for the place to change, as `Place` says it, gives the nearest point, whatever way the place is found.
use Rattle.std.specs.Prelude.{◌≡◌, refl, Bool, true, false, List, [], ◌∷◌, map, ℕ, zero, suc, ◌+◌, ◌%◌, ◌<◌, T, leb, ltb, ℤ, pos, nat_abs, ◌+ℤ◌, length, ◌≤ℤ◌, ◌<ℤ◌}
use Rattle.std.proofs.Common.{sym, ◌∙◌, ap, subst, inl, inr, ⊎_elim, arith, lt-ltb, le-ltb, le-leb}
use Rattle.std.proofs.Math.Decide.{dec_le}
use Rattle.std.proofs.lemmas.Bool.{lt-leb}
use Rattle.std.proofs.lemmas.List.{length-map}
use Rattle.std.specs.Int.Signed.{le_z, clash_ℤ, ≤ℤ_refl}
use Rattle.integers.specs.Laws.Lexicographic.{≤V-refl, ≤V-trans}
use Rattle.integers.specs.Laws.Sizes.{le_z-true}
use Rattle.integers.specs.Vectors.{square, «at», sum_v, ◌≤V◌}
use Rattle.lattice.specs.Computed.{nearest_d}
use Rattle.lattice.specs.Doubled.{par}
use Rattle.lattice.specs.Laws.Dn.{Summed, nearest_d-least}
use Rattle.lattice.specs.Laws.Least.{Least, Tests, least-unique, cons-≤V}
use Rattle.rounding.proofs.Laws.Mending.{wins, worst, changed-cost, worst-<, compare, changed-least}
use Rattle.lattice.specs.Laws.Parity.{par-add}
use Rattle.rounding.proofs.Laws.Rounds.{turn-is-mid}
use Rattle.lattice.specs.Nearest.{cost}
use Rattle.rounding.specs.Rounding.{round, left, turn, changed, Place}

abbrev pub score : ℤ → List ℤ → List ℤ → List ℤ
score S v f = cost S v f ∷ f

cons-tests : (q c : ℤ) (a b : ℤ) (f g : List ℤ) (t : Bool) → Tests (a ∷ f) (b ∷ g) t → Tests ((q +ℤ a) ∷ c ∷ f) ((q +ℤ b) ∷ c ∷ g) t
cons-tests q c a b f g true h = cons-≤V q q a b c c f g (≤ℤ_refl q) (λ e. ≤ℤ_refl c) h
cons-tests q c a b f g false h = cons-≤V q q b a c c g f (≤ℤ_refl q) (λ e. ≤ℤ_refl c) h

head-odd : (t r s : ℕ) → r < 2 → s < 2 → t ≡ (1 + r) % 2 → (t + s) % 2 ≡ (1 + (r + s) % 2) % 2
head-odd t zero s l k e = omega arith
head-odd t (suc r) s l k e = let z : r ≡ 0 = omega arith in omega arith

tail-odd : (t r s : ℕ) → r < 2 → s < 2 → t ≡ (1 + s) % 2 → (r + t) % 2 ≡ (1 + (r + s) % 2) % 2
tail-odd t r zero l k e = omega arith
tail-odd t r (suc s) l k e = let z : s ≡ 0 = omega arith in omega arith

module _ (S : ℤ) (S> : pos 0 <ℤ S) where
  -- of two changes, the test says which is better
  pub wins-tests : (v : List ℤ) (j i : ℕ) → j < i → i < length v
      → Tests (score S v (changed S v j)) (score S v (changed S v i)) (wins (left S («at» v j)) (nat_abs (left S («at» v i))))
  wins-tests [] j i l h = absurd (omega arith)
  wins-tests (x ∷ w) zero zero l h = absurd (omega arith)
  wins-tests (x ∷ w) zero (suc i) l h = rw (changed-cost S w i (omega arith)) (compare S x S> (cost S w (map (round S) w)) (nat_abs (left S («at» w i))) (map (round S) w) (changed S w i))
  wins-tests (x ∷ w) (suc j) zero l h = absurd (omega arith)
  wins-tests (x ∷ w) (suc j) (suc i) l h = cons-tests (square (left S x)) (round S x) (cost S w (changed S w j)) (cost S w (changed S w i)) (changed S w j) (changed S w i)
      (wins (left S («at» w j)) (nat_abs (left S («at» w i)))) (wins-tests w j i (omega arith) (omega arith))

  pub changed-summed : (v : List ℤ) (j : ℕ) → j < length v → Summed ((1 + par (sum_v (map (round S) v))) % 2) v (changed S v j)
  changed-summed [] j h = absurd (omega arith)
  changed-summed (x ∷ v) zero h = let σ : ℤ = sum_v (map (round S) v) in record {
    long = ap suc (length-map v (round S));
    parity = par-add (turn S x) σ ∙ head-odd (par (turn S x)) (par (round S x)) (par σ) (omega arith) (omega arith) (turn-is-mid S x S>).parity ∙ ap (λ (n : ℕ). (1 + n) % 2) (sym (par-add (round S x) σ));
  }
  changed-summed (x ∷ v) (suc j) h = let r = changed-summed v j (omega arith) in let σ : ℤ = sum_v (map (round S) v) in record {
    long = ap suc r.long;
    parity = par-add (round S x) (sum_v (changed S v j)) ∙ tail-odd (par (sum_v (changed S v j))) (par (round S x)) (par σ) (omega arith) (omega arith) r.parity ∙ ap (λ (n : ℕ). (1 + n) % 2) (sym (par-add (round S x) σ));
  }

T_true : (b : Bool) → T b → b ≡ true
T_true true h = refl
T_true false h = absurd h

not-le : (r : ℤ) → pos 0 <ℤ r → le_z r (pos 0) ≡ false
not-le r h = go (le_z r (pos 0)) refl
  where
    go : (b : Bool) → le_z r (pos 0) ≡ b → b ≡ false
    go true e = clash_ℤ h (le_z-true r (pos 0) e)
    go false e = refl

-- `wins`, by its three tests
tests : (r : ℤ) (m : ℕ) (s t : Bool) → ltb m (nat_abs r) ≡ s → leb m (nat_abs r) ≡ t → wins r m ≡ elim s [ true ↦ true | false ↦ elim t [ true ↦ le_z r (pos 0) | false ↦ false ] ]
tests r m s t p q = ap (λ (s : Bool). elim s [ true ↦ true | false ↦ elim (leb m (nat_abs r)) [ true ↦ le_z r (pos 0) | false ↦ false ] ]) p
    ∙ ap (λ (t : Bool). elim s [ true ↦ true | false ↦ elim t [ true ↦ le_z r (pos 0) | false ↦ false ] ]) q

wins-more : (r : ℤ) (m : ℕ) → m < nat_abs r → wins r m ≡ true
wins-more r m h = tests r m true true (lt-ltb m (nat_abs r) h) (le-leb m (nat_abs r) (omega arith))

wins-less : (r : ℤ) (m : ℕ) → nat_abs r < m → wins r m ≡ false
wins-less r m h = tests r m false false (le-ltb m (nat_abs r) (omega arith)) (lt-leb m (nat_abs r) h)

wins-same : (r : ℤ) (m : ℕ) → nat_abs r ≡ m → wins r m ≡ le_z r (pos 0)
wins-same r m h = tests r m false true (le-ltb m (nat_abs r) (omega arith)) (le-leb m (nat_abs r) (omega arith))

abbrev pub left_at : ℤ → List ℤ → ℕ → ℤ
left_at S v i = left S («at» v i)

module _ (S : ℤ) (S> : pos 0 <ℤ S) (v : List ℤ) (j : ℕ) (place : Place (length v) (left_at S v) j) where
  after : (i : ℕ) → j < i → i < length v → wins (left_at S v j) (nat_abs (left_at S v i)) ≡ true
  after i l h = elim (dec_le (nat_abs (left_at S v j)) (nat_abs (left_at S v i))) [
    | yes k ↦ let e : nat_abs (left_at S v i) ≡ nat_abs (left_at S v j) = omega (arith, place.most i h) in
        wins-same (left_at S v j) (nat_abs (left_at S v i)) (sym e) ∙ ⊎_elim (λ d. T_true _ d.0.le) (λ u. absurd (omega (arith, (u i h e).1))) place.tie
    | no k ↦ wins-more (left_at S v j) (nat_abs (left_at S v i)) (omega arith)
  ]

  before : (i : ℕ) → i < j → wins (left_at S v i) (nat_abs (left_at S v j)) ≡ false
  before i l = elim (dec_le (nat_abs (left_at S v j)) (nat_abs (left_at S v i))) [
    | yes k ↦ let h : i < length v = omega (arith, place.within) in let e : nat_abs (left_at S v i) ≡ nat_abs (left_at S v j) = omega (arith, place.most i h) in
        wins-same (left_at S v i) (nat_abs (left_at S v j)) e ∙ not-le (left_at S v i) (⊎_elim (λ d. d.1 i l e) (λ u. (u i h e).0) place.tie)
    | no k ↦ wins-less (left_at S v i) (nat_abs (left_at S v j)) (omega arith)
  ]

  place-first : (i : ℕ) → i < length v → score S v (changed S v j) ≤V score S v (changed S v i)
  place-first i h = elim (dec_le (suc j) i) [
    | yes l ↦ subst (Tests (score S v (changed S v j)) (score S v (changed S v i))) (after i l h) (wins-tests S S> v j i l h)
    | no l ↦ elim (dec_le (suc i) j) [
      | yes k ↦ subst (Tests (score S v (changed S v i)) (score S v (changed S v j))) (before i k) (wins-tests S S> v i j k place.within)
      | no k ↦ subst (λ (n : ℕ). score S v (changed S v j) ≤V score S v (changed S v n)) (omega arith) (≤V-refl (score S v (changed S v j)))
    ]
  ]

-- a change that no other beats is the nearest, where the rounded sum is odd
pub first-nearest : (S : ℤ) → pos 0 <ℤ S → (v : List ℤ) → par (sum_v (map (round S) v)) ≡ 1 → (j : ℕ) → j < length v
    → ((i : ℕ) → i < length v → score S v (changed S v j) ≤V score S v (changed S v i)) → changed S v j ≡ nearest_d S v
first-nearest S S> [] odd j h f = absurd (omega arith)
first-nearest S S> (x ∷ v) odd j h f = let w : List ℤ = x ∷ v in let k : ℕ = worst S x v in
    let p : Least (Summed ((1 + par (sum_v (map (round S) w))) % 2) w) (cost S w) (changed S w j) = record {
      member = changed-summed S S> w j h;
      least = λ g m. ≤V-trans (score S w (changed S w j)) (score S w (changed S w k)) (score S w g) (f k (worst-< S x v)) ((changed-least S S> x v).least g m);
    } in
    least-unique (subst (λ (n : ℕ). Least (Summed ((1 + n) % 2) w) (cost S w) (changed S w j)) odd p) (nearest_d-least S S> w)

pub place-nearest : (S : ℤ) → pos 0 <ℤ S → (v : List ℤ) (j : ℕ) → Place (length v) (left_at S v) j → par (sum_v (map (round S) v)) ≡ 1 → changed S v j ≡ nearest_d S v
place-nearest S S> v j r odd = first-nearest S S> v odd j r.within (place-first S S> v j r)

-- a place is one for every list of what is left that has the same entries
pub place_same : {n : ℕ} {r t : ℕ → ℤ} {j : ℕ} → ((i : ℕ) → i < n → r i ≡ t i) → Place n r j → Place n t j
place_same {n} {r} {t} {j} e p =
    let here : r j ≡ t j = e j p.within in
    let sized : (i : ℕ) → i < n → nat_abs (t i) ≡ nat_abs (t j) → nat_abs (r i) ≡ nat_abs (r j) = λ i h q. ap nat_abs (e i h) ∙ q ∙ sym (ap nat_abs here) in
    record {
      within = p.within;
      most = λ i h. rw (← e i h, ← here) (p.most i h);
      tie = ⊎_elim
          (λ d. inl (subst (λ (z : ℤ). z ≤ℤ pos 0) here d.0, λ i l q. let h : i < n = omega (arith, p.within) in subst (λ (z : ℤ). pos 0 <ℤ z) (e i h) (d.1 i l (sized i h q))))
          (λ u. inr λ i h q. let k = u i h (sized i h q) in (subst (λ (z : ℤ). pos 0 <ℤ z) (e i h) k.0, k.1))
          p.tie;
    }
