-- What a glance over blocks has found: the faults of their first bytes, and eight numbers such that no digit is past all of them.
use Rattle.std.specs.Prelude.{◌≡◌, refl, List, ℕ, zero, suc, ◌+◌, ◌*◌, ◌-◌, ◌<◌, ◌≤◌, length, get_or, take, drop, set}
use Rattle.std.proofs.Common.{sym, ◌∙◌, ap, subst, le_refl, arith, length-set, length-take, length-drop, get_or-set_same, get_or-set_other, get_or-take, get_or-drop}
use Rattle.std.proofs.Math.Decide.{ℕ_discrete, dec_le}
use Rattle.std.specs.Array.{IsFromFnResult, IsFromFnResultFrom}
use Rattle.std.specs.Fn.{Mut, Called}
use Rattle.layers.specs.Digits.{Below, cut}
use Rattle.layers.specs.Laws.Rows.{below_at, below_all}
use Rattle.layers.specs.Code.{code8}
use Rattle.records.specs.Codes.{block_size, IsBlock, AllAccepted, Raised}
use Rattle.records.specs.Laws.Asked.{blocks-accepted}
use Rattle.records.specs.Laws.Parts.{part-ends, cut-long, cut_at}

-- one entry more, below neither of its two numbers
pub raised-more : (top ds : List ℕ) (a i : ℕ) (r : List ℕ) (x : ℕ) → i < 8 → get_or top i 0 ≤ x → get_or ds (a + i) 0 ≤ x → Raised top ds a i r → Raised top ds a (i + 1) (set r i x)
raised-more top ds a i r x h k f o =
    record { long = length-set r i x ∙ o.long; kept = each (λ (j : ℕ). get_or top j 0) k o.kept; found = each (λ (j : ℕ). get_or ds (a + j) 0) f o.found }
  where
    each : (b : ℕ → ℕ) → b i ≤ x → ((j : ℕ) → j < i → b j ≤ get_or r j 0) → (j : ℕ) → j < i + 1 → b j ≤ get_or (set r i x) j 0
    each b here before j l = elim (ℕ_discrete j i) [
      | yes e ↦ subst (λ (j : ℕ). b j ≤ get_or (set r i x) j 0) (sym e) (subst (λ (y : ℕ). b i ≤ y) (sym (get_or-set_same r i x 0 (omega (arith, o.long)))) here)
      | no e ↦ subst (λ (y : ℕ). b j ≤ y) (sym (get_or-set_other r i j x 0 e)) (before j (omega arith))
    ]

-- a number below neither of the two at k
abbrev pub Over : List ℕ → List ℕ → ℕ → ℕ → ℕ → Type 0
Over top ds a k y = (get_or top k 0 ≤ y) × (get_or ds (a + k) 0 ≤ y)

-- eight entries that calls at each index gave, each below neither number of its index
module _ {F : Type 0} (g : Mut F (ℕ × Unit {0}) ℕ) (top ds : List ℕ) (a : ℕ) {f : F} where
  over_at : (r : List ℕ) (i n : ℕ) → i + n ≤ 8 → ((k y : ℕ) (q : F) → k < 8 → Called g f (k, tt) y q → (q ≡ f) × Over top ds a k y) → IsFromFnResultFrom g f r i n → (j : ℕ) → j < n → Over top ds a (i + j) (get_or r (i + j) 0)
  over_at r i zero l s e j b = absurd (omega arith)
  over_at r i (suc n) l s (q, y, p, c, e) zero b = let z : i + 0 ≡ i = omega arith in rw (z, p.1 0) (s i y q (omega arith) c).1
  over_at r i (suc n) l s (q, y, p, c, e) (suc j) b =
      let z : i + suc j ≡ i + 1 + j = omega arith in
      rw z (over_at r (i + 1) n (omega arith) s (subst (λ (t : F). IsFromFnResultFrom g t r (i + 1) n) (s i y q (omega arith) c).0 e) j (omega arith))

  pub raised-each : {r : List ℕ} → IsFromFnResult g f r 8 → ((k y : ℕ) (q : F) → k < 8 → Called g f (k, tt) y q → (q ≡ f) × Over top ds a k y) → Raised top ds a 8 r
  raised-each {r} e s = record { long = e.long; kept = λ j l. (over j l).0; found = λ j l. (over j l).1 }
    where
      over : (j : ℕ) → j < 8 → Over top ds a j (get_or r j 0)
      over j l = let z : 0 + j ≡ j = omega arith in subst (λ (k : ℕ). Over top ds a k (get_or r k 0)) z (over_at r 0 8 (omega arith) s e.each j l)

-- a number that is not past all of eight
abbrev pub Under : List ℕ → ℕ → Type 0
Under top x = (e : ℕ) × (e < 8) × (x ≤ get_or top e 0)

-- eight numbers `top`, not below those before, that the first j layers from the place a are under
pub record Raising (f : List ℕ) (a : ℕ) (before : List ℕ) (j : ℕ) (top : List ℕ) : Type 0 where
  pub long : length top ≡ 8
  pub kept : (e : ℕ) → e < 8 → get_or before e 0 ≤ get_or top e 0
  pub digits : (d : ℕ) → d < 8 * j → Under top (get_or f (a + d) 0)

module _ (f : List ℕ) (a : ℕ) where
  -- none yet
  pub raising-none : (top : List ℕ) → length top ≡ 8 → Raising f a top 0 top
  raising-none top h = record { long = h; kept = λ e l. le_refl (get_or top e 0); digits = λ d l. absurd (omega arith) }

  -- one layer more
  pub raising-more : (before : List ℕ) (j : ℕ) (top r : List ℕ) → Raised top f (a + 8 * j) 8 r → Raising f a before j top → Raising f a before (j + 1) r
  raising-more before j top r h o = record {
    long = h.long;
    kept = λ e l. omega (arith, o.kept e l, h.kept e l);
    digits = λ d l. elim (dec_le (suc d) (8 * j)) [
      | yes k ↦ let u = o.digits d k in (u.0, u.1, omega (arith, u.2, h.kept u.0 u.1))
      | no k ↦ let e : ℕ = d - 8 * j in let m : e < 8 = omega arith in let s : a + 8 * j + e ≡ a + d = omega arith in
          (e, m, subst (λ (n : ℕ). get_or f n 0 ≤ get_or r e 0) s (h.found e m))
    ];
  }

-- the first i blocks of n bytes, 8 m of them digits: no first byte is at fault where no fault was counted, and the digits are under `top`
pub record Glanced (steps n m : ℕ) (f : List ℕ) (i faults : ℕ) (top : List ℕ) : Type 0 where
  pub few : faults ≤ i
  pub long : length top ≡ 8
  pub firsts : faults ≡ 0 → (b : ℕ) → b < i → get_or f (n * b) 0 < steps
  pub digits : (b : ℕ) → b < i → (d : ℕ) → d < 8 * m → Under top (get_or f (n * b + 1 + d) 0)

module _ (steps n m : ℕ) (f : List ℕ) where
  -- none yet
  pub glanced-none : (top : List ℕ) → length top ≡ 8 → Glanced steps n m f 0 0 top
  glanced-none top h = record { few = omega arith; long = h; firsts = λ z b l. absurd (omega arith); digits = λ b l. absurd (omega arith) }

  -- one block more
  pub glanced-more : (i faults x j : ℕ) (top r : List ℕ) → x ≤ 1 → (x ≡ 0 → get_or f (n * i) 0 < steps) → m ≤ j → Raising f (n * i + 1) top j r → Glanced steps n m f i faults top → Glanced steps n m f (i + 1) (faults + x) r
  glanced-more i faults x j top r one h all k o = record {
    few = omega (arith, o.few);
    long = k.long;
    firsts = λ z b l. elim (ℕ_discrete b i) [
      | yes e ↦ subst (λ (b : ℕ). get_or f (n * b) 0 < steps) (sym e) (h (omega arith))
      | no e ↦ o.firsts (omega arith) b (omega arith)
    ];
    digits = λ b l d v. elim (ℕ_discrete b i) [
      | yes e ↦ subst (λ (b : ℕ). Under r (get_or f (n * b + 1 + d) 0)) (sym e) (k.digits d (omega arith))
      | no e ↦ let u = o.digits b (omega arith) d v in (u.0, u.1, omega (arith, u.2, k.kept u.0 u.1))
    ];
  }

-- all k blocks, with no fault, and all of `top` below q
module _ (steps q m k i : ℕ) (f top : List ℕ) (h : block_size (code8 q m) * k ≤ length f) (l : k ≤ i) (below : Below q top) (o : Glanced steps (block_size (code8 q m)) m f i 0 top) where
  abbrev n : ℕ
  n = block_size (code8 q m)

  under : (x : ℕ) → Under top x → x < q
  under x u = omega (arith, u.2, below_at q top below u.0 (omega (arith, u.1, o.long)))

  good : (j : ℕ) → j < k → IsBlock steps (code8 q m) (take n (drop (n * j) f))
  good j w =
      let b : List ℕ = take n (drop (n * j) f) in let long : length b ≡ n = simp (length-take, length-drop) (omega (arith, part-ends n j k w)) in
      let byte : (d : ℕ) → d < n → get_or b d 0 ≡ get_or f (n * j + d) 0 = λ d v. get_or-take n (drop (n * j) f) d 0 v ∙ get_or-drop (n * j) f d 0 in
      let z : n * j + 0 ≡ n * j = omega arith in
      record {
        long = long;
        first = subst (λ (x : ℕ). x < steps) (sym (byte 0 (omega arith) ∙ ap (λ (a : ℕ). get_or f a 0) z)) (o.firsts refl j (omega arith));
        code = record {
          long = simp length-drop (omega (arith, long));
          below = below_all q (drop 1 b) (λ d v. let u : d < 8 * m = omega (arith, long, simp length-drop at v) in let s : n * j + (1 + d) ≡ n * j + 1 + d = omega arith in
              subst (λ (x : ℕ). x < q) (sym (get_or-drop 1 b d 0 ∙ byte (1 + d) (omega arith) ∙ ap (λ (a : ℕ). get_or f a 0) s)) (under (get_or f (n * j + 1 + d) 0) (o.digits j (omega arith) d u)));
        };
      }

  -- they are accepted
  pub glanced-all : AllAccepted steps q n k f
  glanced-all p = blocks-accepted steps (code8 q m) n p (cut n k f) (λ j v. let w : j < k = omega (arith, cut-long n k f) in subst (IsBlock steps (code8 q m)) (sym (cut_at n k j f w)) (good j w))
