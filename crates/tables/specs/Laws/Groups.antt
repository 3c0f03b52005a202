-- Groups of entries: written block by block, and group after group until every block has its part.
use Rattle.std.specs.Prelude.{◌≡◌, refl, ◌⊎◌, List, ◌++◌, map, ℕ, zero, suc, ◌+◌, ◌*◌, ◌-◌, ◌/◌, ◌%◌, ◌<◌, ◌≤◌, ℤ, pos, length, take, drop}
use Rattle.std.proofs.Common.{sym, ◌∙◌, ap, subst, inl, inr, mul-le-mul, le_refl, mod-lt, arith, length-append, length-drop, get_or-drop, get_or-append-add, ext_get_or}
use Rattle.std.proofs.Math.Decide.{ℕ_discrete, dec_le}
use Rattle.std.proofs.Math.Nat.{div-add-mod}
use borrow.Rule.Slice.PartMut.{put_mid}
use Rattle.integers.specs.Vectors.{«at», dot}
use Rattle.layers.specs.Digits.{joined, cut}
use Rattle.records.specs.Laws.Parts.{part-ends, cut-long}
use Rattle.slices.specs.Laws.Parts.{put-long, put-before, put_in, put-after}
use Rattle.slices.specs.Slices.{Dots}
use Rattle.tables.specs.Groups.{GroupFilled}
use Rattle.tables.specs.Laws.Entries.{parts-long, parts_at}
use Rattle.tables.specs.Tables.{part_size, layer_at, query_part}

-- ---- one group, block by block

module _ (size i n : ℕ) (point : ℕ → List ℤ) (X o : List ℤ) where
  -- no block yet
  pub group-none : GroupFilled size i n point X o 0 o
  group-none = record { long = refl; filled = λ b t h k. absurd (omega arith); kept = λ p h. refl }

  -- block b too, whose entries were lent and came back as the sums
  pub group-more : (b : ℕ) (e p : List ℤ) → GroupFilled size i n point X o b e → Dots n point (take 8 (drop (8 * b) X)) p → i + n ≤ size → size * b + i + n ≤ length e
      → GroupFilled size i n point X o (b + 1) (put_mid (size * b + i) n e p)
  group-more b e p g d h room = record {
    long = put-long a n e p d.long room ∙ g.long;
    filled = λ c t k m. elim (ℕ_discrete c b) [
      | yes x ↦ subst (λ (c : ℕ). «at» (put_mid a n e p) (size * c + i + t) ≡ dot (take 8 (drop (8 * c) X)) (point t)) (sym x) (put_in a n e p d.long room (pos 0) t m ∙ d.each t m)
      | no x ↦ put-before a n e p d.long room (pos 0) (size * c + i + t) (omega (arith, part-ends size c b (omega arith))) ∙ g.filled c t (omega arith) m
    ];
    kept = λ j k. elim (k b (omega arith)) [
      | inl x ↦ put-before a n e p d.long room (pos 0) j x
      | inr x ↦ put-after a n e p d.long room (pos 0) j x
    ] ∙ g.kept j (λ c m. k c (omega arith));
  }
    where
      a : ℕ
      a = size * b + i

-- ---- all groups

-- a number below n k shows that n is not 0, and lies in one of k parts
some : (n k p : ℕ) → p < n * k → 0 < n
some zero k p h = absurd (omega arith)
some (suc n) k p h = omega arith

block : (n k b p : ℕ) → p < n * k → n * b ≤ p → b < k
block n k b p h m = elim (dec_le (suc b) k) [ yes x ↦ x | no x ↦ absurd (omega (arith, mul-le-mul (le_refl n) (le-of-not k b x))) ]
  where
    le-of-not : (k b : ℕ) → (suc b ≤ k → ⊥) → k ≤ b
    le-of-not k b x = omega arith

-- in the parts of all k blocks the first i entries are right; past the last part all is as it was in o
pub record FilledTo (q k : ℕ) (X o : List ℤ) (i : ℕ) (e : List ℤ) : Type 0 where
  pub long : length e ≡ length o
  pub filled : (b j : ℕ) → b < k → j < i → «at» e (part_size q * b + j) ≡ dot (take 8 (drop (8 * b) X)) (layer_at q j)
  pub rest : (p : ℕ) → part_size q * k ≤ p → «at» e p ≡ «at» o p

module _ (q k : ℕ) (X o : List ℤ) where
  -- none yet
  pub filled_none : FilledTo q k X o 0 o
  filled_none = record { long = refl; filled = λ b j h m. absurd (omega arith); rest = λ p h. refl }

  module _ (i : ℕ) (e : List ℤ) (f : FilledTo q k X o i e) where
    -- one group more, whose points are the layer points
    pub filled_more : (n : ℕ) (point : ℕ → List ℤ) (e' : List ℤ) → GroupFilled (part_size q) i n point X e k e' → i + n ≤ part_size q → ((t : ℕ) → t < n → point t ≡ layer_at q (i + t))
        → FilledTo q k X o (i + n) e'
    filled_more n point e' g h points = record {
      long = g.long ∙ f.long;
      filled = λ b j m w. elim (dec_le i j) [
        | yes x ↦ let t : ℕ = j - i in let is : i + t ≡ j = omega arith in let place : part_size q * b + i + t ≡ part_size q * b + (i + t) = omega arith in
            subst (λ (j : ℕ). «at» e' (part_size q * b + j) ≡ dot (take 8 (drop (8 * b) X)) (layer_at q j)) is
            (ap («at» e') (sym place) ∙ g.filled b t m (omega arith) ∙ ap (dot (take 8 (drop (8 * b) X))) (points t (omega arith)))
        | no x ↦ g.kept (part_size q * b + j) (λ c y. apart b c j (omega arith)) ∙ f.filled b j m (omega arith)
      ];
      rest = λ p m. g.kept p (λ c y. inr (omega (arith, part-ends (part_size q) c k y))) ∙ f.rest p m;
    }
      where
        -- an entry before the group, of any part, lies outside the group's entries of any part
        apart : (b c j : ℕ) → j < i → (part_size q * b + j < part_size q * c + i) ⊎ (part_size q * c + i + n ≤ part_size q * b + j)
        apart b c j y = elim (dec_le b c) [
          | yes x ↦ inl (omega (arith, mul-le-mul (le_refl (part_size q)) x))
          | no x ↦ inr (omega (arith, part-ends (part_size q) c b (omega arith)))
        ]

  -- all entries of all parts
  pub filled-all : (e : List ℤ) → FilledTo q k X o (part_size q) e → part_size q * k ≤ length o → e ≡ joined (map (query_part q) (cut 8 k X)) ++ drop (part_size q * k) o
  filled-all e f room = ext_get_or (pos 0) e (table ++ drop (n * k) o) (f.long ∙ sym (simp (length-append, length-drop) (omega (arith, table-long)))) (λ p h. elim (dec_le (n * k) p) [
    | yes x ↦ let j : ℕ = p - n * k in let is : n * k + j ≡ p = omega arith in
        f.rest p x ∙ subst (λ (p : ℕ). «at» o p ≡ «at» (table ++ drop (n * k) o) p) is (sym (past j ∙ get_or-drop (n * k) o j (pos 0)))
    | no x ↦ inside p (omega arith)
  ])
    where
      n : ℕ
      n = part_size q

      table : List ℤ
      table = joined (map (query_part q) (cut 8 k X))

      table-long : length table ≡ n * k
      table-long = parts-long q (cut 8 k X) ∙ ap (λ (k : ℕ). n * k) (cut-long 8 k X)

      past : (j : ℕ) → «at» (table ++ drop (n * k) o) (n * k + j) ≡ «at» (drop (n * k) o) j
      past j = subst (λ (m : ℕ). «at» (table ++ drop (n * k) o) (m + j) ≡ «at» (drop (n * k) o) j) table-long (get_or-append-add table (drop (n * k) o) j (pos 0))

      inside : (p : ℕ) → p < n * k → «at» e p ≡ «at» (table ++ drop (n * k) o) p
      inside p h = let b : ℕ = p / n in let j : ℕ = p % n in let is : n * b + j ≡ p = div-add-mod p n in let j< : j < n = mod-lt p (some n k p h) in let b< : b < k = block n k b p h (omega arith) in
          subst (λ (p : ℕ). «at» e p ≡ «at» (table ++ drop (n * k) o) p) is (f.filled b j b< j< ∙ sym (parts_at q k X (drop (n * k) o) b j b< j<))
