-- A part of a list, lent and come back: what stands before it, in it and after it.
use Rattle.std.specs.Prelude.{◌≡◌, List, ◌++◌, ℕ, ◌+◌, ◌-◌, ◌<◌, ◌≤◌, length, get_or, take, drop}
use Rattle.std.proofs.Common.{◌∙◌, subst, arith, length-append, length-take, length-drop, get_or-take, get_or-drop, get_or-append-add, length-take-le}
use borrow.Rule.Slice.PartMut.{put_mid}
use Rattle.std.proofs.Math.ListN.{get_or-append}

-- n entries from a on come back as p
module _ {A : Type 0} (a n : ℕ) (e p : List A) (long : length p ≡ n) (room : a + n ≤ length e) where
  front : length (take a e) ≡ a
  front = length-take-le a e (omega arith)

  -- as long as before
  pub put-long : length (put_mid a n e p) ≡ length e
  put-long = simp (length-append, length-take, length-drop) (omega arith)

  module _ (blank : A) where
    -- before it
    pub put-before : (i : ℕ) → i < a → get_or (put_mid a n e p) i blank ≡ get_or e i blank
    put-before i h = get_or-append (take a e) (p ++ drop n (drop a e)) blank i (omega (arith, front)) ∙ get_or-take a e i blank h

    from : (j : ℕ) → get_or (put_mid a n e p) (a + j) blank ≡ get_or (p ++ drop n (drop a e)) j blank
    from j = subst (λ (b : ℕ). get_or (put_mid a n e p) (b + j) blank ≡ get_or (p ++ drop n (drop a e)) j blank) front (get_or-append-add (take a e) (p ++ drop n (drop a e)) j blank)

    -- in it
    pub put_in : (j : ℕ) → j < n → get_or (put_mid a n e p) (a + j) blank ≡ get_or p j blank
    put_in j h = from j ∙ get_or-append p (drop n (drop a e)) blank j (omega arith)

    -- after it
    pub put-after : (i : ℕ) → a + n ≤ i → get_or (put_mid a n e p) i blank ≡ get_or e i blank
    put-after i h = let j : ℕ = i - (a + n) in let w : a + (n + j) ≡ i = omega arith in
        subst (λ (i : ℕ). get_or (put_mid a n e p) i blank ≡ get_or e i blank) w
        (from (n + j) ∙ subst (λ (m : ℕ). get_or (p ++ drop n (drop a e)) (m + j) blank ≡ get_or (drop n (drop a e)) j blank) long (get_or-append-add p (drop n (drop a e)) j blank)
        ∙ get_or-drop n (drop a e) j blank ∙ get_or-drop a e (n + j) blank)
