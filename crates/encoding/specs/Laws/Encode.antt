-- Coding block by block: which block is refused, and the bytes so far.
use Rattle.std.specs.Prelude.{◌≡◌, Bool, cond, List, [], ◌∷◌, ◌++◌, ℕ, suc, ◌+◌, ◌*◌, ◌<◌, ◌≤◌, ℤ, length, take, drop, Err}
use Rattle.std.proofs.Common.{◌∙◌, ap, arith, lt-ltb, le-ltb, length-append}
use Rattle.blocks.specs.Laws.Theorems.{block-long8}
use Rattle.blocks.specs.Trials.{first_fitting, block_code}
use Rattle.layers.specs.Digits.{cut}
use Rattle.layers.specs.E8.{e8, nearest}
use Rattle.refusals.specs.declared.Refusal.TheVariants.{Overload}
use Rattle.layers.specs.Code.{Code, code8}
use Rattle.records.specs.Codes.{block_bytes, code_length}
use Rattle.encoding.specs.Encode.{check_fits, code_bytes, code_record}
use Rattle.records.specs.Laws.Parts.{cut-more, joined-more}

module _ (C : Code) (steps : List ℤ) (k : ℕ) (X : List ℤ) (l : List (List ℤ)) where
  abbrev T : ℕ
  T = first_fitting C.lattice C.rule C.q C.m steps X

  -- a block that a listed step fits, and then the rest
  pub fits_next : T < length steps → check_fits C steps k (X ∷ l) ≡ check_fits C steps (suc k) l
  fits_next h = ap (λ (b : Bool). cond b (check_fits C steps (suc k) l) (Err (Overload k))) (lt-ltb T (length steps) h)

  -- or that none does
  pub fits-none : length steps ≤ T → check_fits C steps k (X ∷ l) ≡ Err (Overload k)
  fits-none h = ap (λ (b : Bool). cond b (check_fits C steps (suc k) l) (Err (Overload k))) (le-ltb T (length steps) h)

-- the bytes of i blocks, and of one more
module _ (q m : ℕ) (steps : List ℤ) where
  pub code_bytes-long : (l : List (List ℤ)) → length (code_bytes (code8 q m) steps l) ≡ block_bytes 8 m * length l
  code_bytes-long [] = omega arith
  code_bytes-long (X ∷ l) = simp length-append (omega (arith, block-long8 q m steps X, code_bytes-long l))

  pub code_bytes-more : (i : ℕ) (X : List ℤ) → code_bytes (code8 q m) steps (cut 8 (i + 1) X) ≡ code_bytes (code8 q m) steps (cut 8 i X) ++ block_code e8 nearest q m steps (take 8 (drop (8 * i) X))
  code_bytes-more i X = ap (code_bytes (code8 q m) steps) (cut-more 8 i X) ∙ joined-more (block_code e8 nearest q m steps) (cut 8 i X) (take 8 (drop (8 * i) X))

  pub code_record-long : (l : List (List ℤ)) → length (code_record (code8 q m) steps l) ≡ code_length (code8 q m) (length l)
  code_record-long l = omega (arith, code_bytes-long l)
