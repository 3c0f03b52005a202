-- What it says that a number is a number of whole blocks, and that a record's frame is good.
use Rattle.std.specs.Prelude.{◌≡◌, true, ◌&&◌, List, ℕ, ◌+◌, ◌*◌, ◌/◌, ◌%◌, ◌<◌, ◌≤◌, eqb, length}
use Rattle.std.proofs.Common.{div-add-mod', arith, eqb-true, leb-true, eq-eqb, le-leb}
use Rattle.std.proofs.Math.Nat.{mul-div_right, mul-mod_right}
use Rattle.std.proofs.Math.Dec.{leb}
use Rattle.integers.specs.Laws.Tests.{and-true}
use Rattle.readings.specs.Words.{word_at}
use Rattle.records.specs.Frames.{whole_blocks, good_record, Whole, Framed}

pub blocks-whole : (size least most n : ℕ) → whole_blocks size least most n ≡ true → Whole size least most n
unfolding whole_blocks
blocks-whole size least most n e =
    let t = and-true (eqb (n % size) 0) (leb least (n / size) && leb (n / size) most) e in let u = and-true (leb least (n / size)) (leb (n / size) most) t.1 in
    record { times = omega (arith, div-add-mod' n size, eqb-true (n % size) 0 t.0); some = leb-true least (n / size) u.0; few = leb-true (n / size) most u.1 }

-- K times size is such a number
pub whole-blocks : (size least most K : ℕ) → 0 < size → least ≤ K → K ≤ most → whole_blocks size least most (size * K) ≡ true
unfolding whole_blocks
whole-blocks size least most K s> h k =
    let n : ℕ = size * K in let e : n / size ≡ K = mul-div_right K s> in
    rw (eq-eqb (n % size) 0 (mul-mod_right size K), le-leb least (n / size) (omega arith), le-leb (n / size) most (omega arith))

module _ (width size least most : ℕ) (b : List ℕ) (e : good_record width size least most b ≡ true) where
  abbrev n : ℕ
  n = word_at b 0

  tests : (leb 4 (length b) ≡ true) × (whole_blocks size least most n ≡ true) × (leb (4 + width * n) (length b) ≡ true)
  unfolding good_record
  tests =
      let t = and-true (leb 4 (length b)) (whole_blocks size least most n && leb (4 + width * n) (length b)) e in
      let u = and-true (whole_blocks size least most n) (leb (4 + width * n) (length b)) t.1 in (t.0, u.0, u.1)

  pub record-whole : whole_blocks size least most n ≡ true
  record-whole = tests.1

  pub record-framed : Framed width size least most b
  record-framed = record { there = leb-true 4 (length b) tests.0; whole = blocks-whole size least most n record-whole; complete = leb-true (4 + width * n) (length b) tests.2 }

-- so a record of that dimension with nothing cut off has a good frame
pub frame-good : (width size least most : ℕ) (b : List ℕ) → 4 + width * word_at b 0 ≤ length b → whole_blocks size least most (word_at b 0) ≡ true → good_record width size least most b ≡ true
unfolding good_record
frame-good width size least most b h e = rw (le-leb 4 (length b) (omega arith), e, le-leb (4 + width * word_at b 0) (length b) h)
