-- Refusal 7 names the least byte at fault: the first that is not below its limit (01, When the unit says no).
use Rattle.std.specs.Prelude.{◌≡◌, refl, Bool, true, false, cond, ◌⊎◌, List, [], ◌∷◌, ℕ, zero, suc, ◌+◌, ◌*◌, ◌-◌, ◌%◌, ◌<◌, ◌≤◌, ltb, length, get_or, take, drop, Ok, Err}
use Rattle.std.proofs.Common.{sym, ◌∙◌, ap, subst, subst₂, inl, inr, mod-eq_of_lt, arith, ltb-true, ltb-false, length-take, length-drop, get_or-take, get_or-drop}
use Rattle.std.proofs.Math.Decide.{dec_le}
use Rattle.std.proofs.Math.Nat.{add-mod_left}
use Rattle.refusals.specs.declared.Refusal.TheVariants.{Byte}
use Rattle.refusals.specs.Laws.Verdicts.{refused-never}
use Rattle.refusals.specs.Verdicts.{first_refusal, Verdict}
use Rattle.coding.specs.Answers.{check_below}
use Rattle.layers.specs.Digits.{cut}
use Rattle.records.specs.Codes.{check_block, check_blocks}

-- what the byte j of a block must be below: the number of steps for T, q for a digit
abbrev pub block_limit : ℕ → ℕ → ℕ → ℕ
block_limit steps q zero = steps
block_limit steps q (suc j) = q

-- the same for the byte j of blocks of n bytes in a row
abbrev pub limit_of : ℕ → ℕ → ℕ → ℕ → ℕ
limit_of steps q n j = block_limit steps q (j % n)

-- of the first n bytes all are below their limits
abbrev pub Good : (ℕ → ℕ) → List ℕ → ℕ → Type 0
Good limit f n = (j : ℕ) → j < n → get_or f j 0 < limit j

-- of the first n bytes, byte i is not, and each before it is
pub record Fault (limit : ℕ → ℕ) (f : List ℕ) (n i : ℕ) : Type 0 where
  pub within : i < n
  pub over : limit i ≤ get_or f i 0
  pub under : Good limit f i

-- a verdict on the first n bytes, the first in the place p, that names the least byte at fault
abbrev pub Least : (ℕ → ℕ) → List ℕ → ℕ → ℕ → Verdict → Type 0
Least limit f n p v = ((v ≡ Ok tt) × Good limit f n) ⊎ ((i : ℕ) × (v ≡ Err (Byte (p + i))) × Fault limit f n i)

-- the same of bytes and limits that agree
module _ (limit other : ℕ → ℕ) (f g : List ℕ) (n : ℕ) (bytes : (j : ℕ) → j < n → get_or f j 0 ≡ get_or g j 0) (limits : (j : ℕ) → j < n → limit j ≡ other j) where
  good-same : (k : ℕ) → k ≤ n → Good limit f k → Good other g k
  good-same k l h j m = subst₂ ◌<◌ (bytes j (omega arith)) (limits j (omega arith)) (h j m)

  -- and their verdicts
  least-same : (p : ℕ) (v : Verdict) → Least limit f n p v → Least other g n p v
  least-same p v (inl h) = inl (h.0, good-same n (omega arith) h.1)
  least-same p v (inr h) = let w = h.2.within in
      inr (h.0, h.1, record { within = w; over = subst₂ ◌≤◌ (limits h.0 w) (bytes h.0 w) h.2.over; under = good-same h.0 (omega arith) h.2.under })

-- a byte, then others
module _ (limit : ℕ → ℕ) (t : ℕ) (ds : List ℕ) (n p : ℕ) (v : Verdict) where
  good_more : (k : ℕ) → t < limit 0 → Good (λ (j : ℕ). limit (suc j)) ds k → Good limit (t ∷ ds) (suc k)
  good_more k h rest zero l = h
  good_more k h rest (suc j) l = rest j (omega arith)

  -- the first decides, then the others
  first_byte : Least (λ (j : ℕ). limit (suc j)) ds n (suc p) v → Least limit (t ∷ ds) (suc n) p (cond (ltb t (limit 0)) v (Err (Byte p)))
  first_byte rest = go (ltb t (limit 0)) (ltb-true t (limit 0)) (ltb-false t (limit 0)) rest
    where
      go : (b : Bool) → (b ≡ true → t < limit 0) → (b ≡ false → limit 0 ≤ t) → Least (λ (j : ℕ). limit (suc j)) ds n (suc p) v → Least limit (t ∷ ds) (suc n) p (cond b v (Err (Byte p)))
      go true x y (inl h) = inl (h.0, good_more n (x refl) h.1)
      go true x y (inr h) = let i : ℕ = h.0 in let e : suc p + i ≡ p + suc i = omega arith in
          inr (suc i, h.1 ∙ ap (λ (j : ℕ). Err (Byte j)) e, record { within = omega (arith, h.2.within); over = h.2.over; under = good_more i (x refl) h.2.under })
      go false x y r = let e : p ≡ p + 0 = omega arith in
          inr (0, ap (λ (j : ℕ). Err (Byte j)) e, record { within = omega arith; over = y refl; under = λ j l. absurd (omega arith) })

-- digits, and a block
below-least : (q p : ℕ) (ds : List ℕ) → Least (λ (j : ℕ). q) ds (length ds) p (check_below q p ds)
below-least q p [] = inl (refl, λ j l. absurd (omega arith))
below-least q p (d ∷ ds) = first_byte (λ (j : ℕ). q) d ds (length ds) p (check_below q (suc p) ds) (below-least q (suc p) ds)

block-least : (steps q p : ℕ) (b : List ℕ) → Least (block_limit steps q) b (length b) p (check_block steps q p b)
block-least steps q p [] = inl (refl, λ j l. absurd (omega arith))
block-least steps q p (t ∷ ds) = first_byte (block_limit steps q) t ds (length ds) p (check_below q (suc p) ds) (below-least q (suc p) ds)

-- a bytes, then b more
module _ (limit : ℕ → ℕ) (f : List ℕ) (a : ℕ) where
  good-both : (b : ℕ) → Good limit f a → Good (λ (j : ℕ). limit (a + j)) (drop a f) b → Good limit f (a + b)
  good-both b h k j l = elim (dec_le a j) [
    | yes m ↦ let e : a + (j - a) ≡ j = omega arith in subst (λ (j : ℕ). get_or f j 0 < limit j) e (subst (λ (x : ℕ). x < limit (a + (j - a))) (get_or-drop a f (j - a) 0) (k (j - a) (omega arith)))
    | no m ↦ h j (omega arith)
  ]

  -- the first verdict that refuses
  least-both : (b p : ℕ) (v w : Verdict) → Least limit f a p v → Least (λ (j : ℕ). limit (a + j)) (drop a f) b (p + a) w → Least limit f (a + b) p (first_refusal (v ∷ w ∷ []))
  least-both b p v w (inr h) r = inr (h.0, ap (λ (v : Verdict). first_refusal (v ∷ w ∷ [])) h.1, record { within = omega (arith, h.2.within); over = h.2.over; under = h.2.under })
  least-both b p v w (inl h) (inl k) = inl (cc, good-both b h.1 k.1)
  least-both b p v w (inl h) (inr k) = let i : ℕ = k.0 in let e : p + a + i ≡ p + (a + i) = omega arith in
      inr (
        a + i,
        ap (λ (v : Verdict). first_refusal (v ∷ w ∷ [])) h.0 ∙ ap (λ (w : Verdict). first_refusal (w ∷ [])) k.1 ∙ ap (λ (j : ℕ). Err (Byte j)) e,
        record { within = omega (arith, k.2.within); over = subst (λ (x : ℕ). limit (a + i) ≤ x) (get_or-drop a f i 0) k.2.over; under = good-both i h.1 k.2.under },
      )

-- k blocks of n bytes
pub blocks-least : (steps q n k p : ℕ) (f : List ℕ) → n * k ≤ length f → Least (limit_of steps q n) f (n * k) p (check_blocks steps q n p (cut n k f))
blocks-least steps q n zero p f h = inl (refl, λ j l. absurd (omega arith))
blocks-least steps q n (suc k) p f h =
    let limit : ℕ → ℕ = limit_of steps q n in let rest : Verdict = check_blocks steps q n (p + n) (cut n k (drop n f)) in
    let long : length (take n f) ≡ n = simp length-take (omega arith) in let size : n + n * k ≡ n * suc k = omega arith in
    subst (λ (s : ℕ). Least limit f s p (first_refusal (check_block steps q p (take n f) ∷ rest ∷ []))) size
    (least-both limit f n (n * k) p (check_block steps q p (take n f)) rest
    (least-same (block_limit steps q) limit (take n f) f n (λ j l. get_or-take n f j 0 l) (λ j l. ap (block_limit steps q) (sym (mod-eq_of_lt l))) p (check_block steps q p (take n f))
    (subst (λ (s : ℕ). Least (block_limit steps q) (take n f) s p (check_block steps q p (take n f))) long (block-least steps q p (take n f))))
    (least-same limit (λ (j : ℕ). limit (n + j)) (drop n f) (drop n f) (n * k) (λ j l. refl) (λ j l. ap (block_limit steps q) (sym (add-mod_left n j))) (p + n) rest
    (blocks-least steps q n k (p + n) (drop n f) (simp length-drop (omega arith)))))

-- so a refusal's place is that of the least byte at fault, counted from p
pub place-least : (steps q n k p i : ℕ) (f : List ℕ) → n * k ≤ length f → check_blocks steps q n p (cut n k f) ≡ Err (Byte (p + i)) → Fault (limit_of steps q n) f (n * k) i
place-least steps q n k p i f h e = go (blocks-least steps q n k p f h)
  where
    go : Least (limit_of steps q n) f (n * k) p (check_blocks steps q n p (cut n k f)) → Fault (limit_of steps q n) f (n * k) i
    go (inl a) = refused-never (sym e ∙ a.0)
    go (inr a) = let same : p + a.0 ≡ p + i = cc (e, a.1) in let j : a.0 ≡ i = omega arith in subst (Fault (limit_of steps q n) f (n * k)) j a.2
