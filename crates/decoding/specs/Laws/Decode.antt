-- What it says that a record was taken for decoding: its readings are exact.
use Rattle.std.specs.Prelude.{◌≡◌, Bool, true, List, [], ◌∷◌, ℕ, ◌<◌, ◌≤◌, leb, ℤ, nat_abs, length, get_or, drop, Ok}
use Rattle.std.proofs.Common.{ap, arith, leb-true, le-leb}
use Rattle.refusals.specs.declared.settings.Settings.{Settings}
use Rattle.refusals.specs.declared.Refusal.TheVariants.{Size, Record}
use Rattle.refusals.specs.Laws.Verdicts.{unless-accepted, first-accepted, first-all}
use Rattle.refusals.specs.Limits.{blocks_most}
use Rattle.refusals.specs.Settings.{check_settings}
use Rattle.refusals.specs.Steps.{check_steps}
use Rattle.refusals.specs.Verdicts.{unless, Verdict}
use Rattle.layers.proofs.Laws.Bases.{base-two}
use Rattle.layers.proofs.Laws.E8.{decode-in8, decode-times8}
use Rattle.records.specs.Eight.Codes.{Coder, IsBlock, block_size, blocks_in, code_blocks, check_frame, check_blocks, step_of, whole_point}
use Rattle.decoding.specs.Decode.{Readable, fvecs_length, check_decode}
use Rattle.records.specs.Frames.{good_record}
use Rattle.records.specs.Eight.Asked.{CoderTaken, coder-taken, RecordTaken, record-taken}

-- the readings of a checked block are exact
pub block-readable : (q : ℤ) (m : ℕ) (steps : List ℤ) (b : List ℕ) → Coder q m steps → IsBlock (length steps) (nat_abs q) m b → Readable (step_of steps b) (whole_point (nat_abs q) m b)
block-readable q m steps b c h =
    let two : 2 ≤ nat_abs q = base-two q c.base in let q> : 0 < nat_abs q = omega arith in let f : List ℕ = drop 1 b in
    record {
      long = (decode-in8 (nat_abs q) m q> f h.code).long;
      exact = decode-times8 (nat_abs q) m q> f h.code two c.power (step_of steps b) (c.listed.each (get_or b 0 0) h.first).most;
    }

-- settings, steps, record and room of an accepted decoding
pub record DecodeTaken (c : Settings) (steps : List ℤ) (b : List ℕ) (room : ℕ) : Type 0 where
  pub taken : CoderTaken c steps
  pub input : RecordTaken (length steps) (nat_abs c.q) (nat_abs c.m) 1 blocks_most b
  pub fits : fvecs_length (blocks_in (nat_abs c.m) b) ≤ room

-- the checks say all of that
pub decode-taken : (c : Settings) (steps : List ℤ) (b : List ℕ) (room : ℕ) → check_decode c steps b room ≡ Ok tt → DecodeTaken c steps b room
unfolding check_decode
decode-taken c steps b room e =
    let m : ℕ = nat_abs c.m in let q : ℕ = nat_abs c.q in let listed : Verdict = check_steps 0 steps in let frame : Verdict = check_frame m 1 blocks_most 0 b in
    let roomy : Verdict = unless (leb (fvecs_length (blocks_in m b)) room) (Size 1) in let bytes : Verdict = check_blocks (length steps) q (block_size m) 0 (code_blocks m b) in
    let s = first-accepted (check_settings c) (listed ∷ frame ∷ roomy ∷ bytes ∷ []) e in let l = first-accepted listed (frame ∷ roomy ∷ bytes ∷ []) s.1 in
    let f = first-accepted frame (roomy ∷ bytes ∷ []) l.1 in let r = first-accepted roomy (bytes ∷ []) f.1 in let d = first-accepted bytes [] r.1 in
    record {
      taken = coder-taken c 0 steps s.0 l.0;
      input = record-taken (length steps) q m 1 blocks_most 0 0 b f.0 d.0;
      fits = leb-true (fvecs_length (blocks_in m b)) room (unless-accepted _ (Size 1) r.0);
    }

-- and the other way: where nothing is at fault decoding is accepted
pub decode-accepted : (c : Settings) (steps : List ℤ) (b : List ℕ) (room : ℕ) → let m = nat_abs c.m in check_settings c ≡ Ok tt → check_steps 0 steps ≡ Ok tt → good_record 1 (block_size m) 1 blocks_most b ≡ true
    → fvecs_length (blocks_in m b) ≤ room → check_blocks (length steps) (nat_abs c.q) (block_size m) 0 (code_blocks m b) ≡ Ok tt → check_decode c steps b room ≡ Ok tt
unfolding check_decode
decode-accepted c steps b room s l f r d =
    let m : ℕ = nat_abs c.m in let roomy : Verdict = unless (leb (fvecs_length (blocks_in m b)) room) (Size 1) in
    first-all (check_settings c ∷ check_steps 0 steps ∷ check_frame m 1 blocks_most 0 b ∷ roomy ∷ check_blocks (length steps) (nat_abs c.q) (block_size m) 0 (code_blocks m b) ∷ [])
    (s, (l, (ap (λ (t : Bool). unless t (Record 0)) f, (ap (λ (t : Bool). unless t (Size 1)) (le-leb (fvecs_length (blocks_in m b)) room r), (d, tt)))))
