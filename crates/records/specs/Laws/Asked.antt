-- What it says that settings, a step list and a code record were taken and not refused.
use Rattle.std.specs.Prelude.{◌≡◌, refl, Bool, true, false, cond, List, [], ◌∷◌, ℕ, zero, suc, ◌+◌, ◌*◌, ◌<◌, ◌≤◌, ltb, ℤ, pos, nat_abs, length, get_or, take, drop, ◌<ℤ◌, Ok, Err}
use Rattle.std.proofs.Common.{sym, ◌∙◌, ap, ap₂, subst, arith, ltb-true, lt-ltb, length-take, length-drop, drop-drop}
use Rattle.integers.specs.Vectors.{«at»}
use Rattle.refusals.specs.declared.settings.Settings.{Settings}
use Rattle.refusals.specs.declared.Refusal.TheVariants.{Byte, Steps, Record}
use Rattle.refusals.specs.Laws.Allowed.{steps-allowed}
use Rattle.refusals.specs.Laws.Verdicts.{refused-never, unless-accepted, first-accepted, first-last}
use Rattle.refusals.specs.Settings.{check_settings}
use Rattle.refusals.specs.Steps.{check_steps, AllowedSteps}
use Rattle.refusals.specs.Verdicts.{first_refusal, Verdict}
use Rattle.blocks.specs.Laws.Sizes.{divisor-positive}
use Rattle.blocks.specs.Limits.{UsedSteps}
use Rattle.coding.specs.Answers.{check_below}
use Rattle.layers.specs.Digits.{Below, cut}
use Rattle.coding.specs.Laws.Asked.{checked-allowed, allowed-base, below-taken, below-accepted}
use Rattle.layers.proofs.Laws.Bases.{base-two}
use Rattle.layers.specs.Code.{Code}
use Rattle.records.specs.Codes.{Coder, CoderTaken, RecordTaken, IsBlock, AreBlocks, block_size, blocks_in, code_blocks, check_frame, check_block, check_blocks}
use Rattle.records.specs.Laws.Codes.{block-opened}
use Rattle.records.specs.Laws.Frames.{record-framed}
use Rattle.records.specs.Frames.{Framed}

-- checked one after the other
pub coder-taken : (c : Settings) (place : ℕ) (steps : List ℤ) → check_settings c ≡ Ok tt → check_steps place steps ≡ Ok tt → CoderTaken c steps
coder-taken c place steps e f = let a = checked-allowed c e in
    record {
      allowed = a;
      coder = record { base = allowed-base c.q c.m a; digit = a.q-most; few = a.m-most; power = a.power; listed = steps-allowed steps (unless-accepted _ (Steps place) f) };
    }

-- both checked as one
pub coder-accepted : (c : Settings) (steps : List ℤ) → first_refusal (check_settings c ∷ check_steps 0 steps ∷ []) ≡ Ok tt → CoderTaken c steps
coder-accepted c steps e = let s = first-accepted (check_settings c) (check_steps 0 steps ∷ []) e in coder-taken c 0 steps s.0 (first-accepted (check_steps 0 steps) [] s.1).0

-- such a list is one that blocks are coded with
pub used-steps : (l : List ℤ) → AllowedSteps l → UsedSteps l
used-steps l h = record { few = omega (arith, h.few); each = λ i k. record { least = (h.each i k).least; most = omega (arith, (h.each i k).most) } }

module _ (q : ℤ) (m : ℕ) (steps : List ℤ) (c : Coder q m steps) where
  pub coder-positive : 0 < nat_abs q
  coder-positive = omega (arith, base-two q c.base)

  pub steps-positive : (i : ℕ) → i < length steps → pos 0 <ℤ «at» steps i
  steps-positive i k = divisor-positive («at» steps i) ((used-steps steps c.listed).each i k)

module _ (steps : ℕ) (C : Code) where
  abbrev q : ℕ
  q = C.q

  abbrev n : ℕ
  n = block_size C

  -- a block
  block-taken : (i : ℕ) (b : List ℕ) → length b ≡ block_size C → check_block steps q i b ≡ Ok tt → IsBlock steps C b
  block-taken i b h e = let k = go (ltb (get_or b 0 0) steps) (ltb-true (get_or b 0 0) steps) (sym (block-opened steps q i b (omega arith)) ∙ e) in
      record { long = h; first = k.0; code = record { long = simp length-drop (omega arith); below = k.1 } }
    where
      go : (t : Bool) → (t ≡ true → get_or b 0 0 < steps) → cond t (check_below q (suc i) (drop 1 b)) (Err (Byte i)) ≡ Ok tt → (get_or b 0 0 < steps) × Below q (drop 1 b)
      go true f e = (f refl, below-taken q (suc i) (drop 1 b) e)
      go false f e = refused-never e

  -- and the other way: what is a block is accepted
  block-accepted : (i : ℕ) (b : List ℕ) → IsBlock steps C b → check_block steps q i b ≡ Ok tt
  block-accepted i b h =
      block-opened steps q i b (omega (arith, h.long)) ∙ ap (λ (t : Bool). cond t (check_below q (suc i) (drop 1 b)) (Err (Byte i))) (lt-ltb (get_or b 0 0) steps h.first)
      ∙ below-accepted q (suc i) (drop 1 b) h.code.below

  -- and blocks one after the other
  pub blocks-accepted : (n i : ℕ) (l : List (List ℕ)) → ((j : ℕ) → j < length l → IsBlock steps C (get_or l j [])) → check_blocks steps q n i l ≡ Ok tt
  blocks-accepted n i [] h = refl
  blocks-accepted n i (b ∷ l) h =
      ap₂ (λ (v w : Verdict). first_refusal (v ∷ w ∷ [])) (block-accepted i b (h 0 (omega arith))) (blocks-accepted n (i + n) l (λ j k. h (suc j) (omega arith)))

  -- each of k blocks
  each-taken : (k i : ℕ) (f : List ℕ) → n * k ≤ length f → check_blocks steps q n i (cut n k f) ≡ Ok tt → (j : ℕ) → j < k → IsBlock steps C (take n (drop (n * j) f))
  each-taken zero i f h e = λ j l. absurd (omega arith)
  each-taken (suc k) i f h e =
      let rest : Verdict = check_blocks steps q n (i + n) (cut n k (drop n f)) in let t = first-accepted (check_block steps q i (take n f)) (rest ∷ []) e in
      go (block-taken i (take n f) (simp length-take (omega arith)) t.0) (each-taken k (i + n) (drop n f) (simp length-drop (omega arith)) (sym (first-last rest) ∙ t.1))
    where
      go : IsBlock steps C (take n f) → ((j : ℕ) → j < k → IsBlock steps C (take n (drop (n * j) (drop n f)))) → (j : ℕ) → j < suc k → IsBlock steps C (take n (drop (n * j) f))
      go here later zero l = let z : 0 ≡ n * 0 = omega arith in subst (λ (a : ℕ). IsBlock steps C (take n (drop a f))) z here
      go here later (suc j) l = let s : n + n * j ≡ n * suc j = omega arith in
          subst (λ (a : ℕ). IsBlock steps C (take n (drop a f))) s (subst (λ (g : List ℕ). IsBlock steps C (take n g)) (drop-drop (n * j) n f) (later j (omega arith)))

  -- k blocks
  pub blocks-taken : (k i : ℕ) (f : List ℕ) → n * k ≤ length f → check_blocks steps q n i (cut n k f) ≡ Ok tt → AreBlocks steps C k f
  blocks-taken k i f h e = record { long = h; each = each-taken k i f h e }

-- the blocks of a good frame are there
pub frame-holds : (C : Code) (least most : ℕ) (b : List ℕ) → Framed 1 (block_size C) least most b → block_size C * blocks_in C b ≤ length (drop 4 b)
frame-holds C least most b h = simp length-drop (omega (arith, h.whole.times, h.complete))

-- its two checks accept
pub record-taken : (steps : ℕ) (C : Code) (least most place i : ℕ) (b : List ℕ) → check_frame C least most place b ≡ Ok tt → check_blocks steps C.q (block_size C) i (code_blocks C b) ≡ Ok tt → RecordTaken steps C least most b
record-taken steps C least most place i b e f = let h = record-framed 1 (block_size C) least most b (unless-accepted _ (Record place) e) in
    record { frame = h; blocks = blocks-taken steps C (blocks_in C b) i (drop 4 b) (frame-holds C least most b h) f }
