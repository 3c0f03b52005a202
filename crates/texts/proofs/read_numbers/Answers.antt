-- `read_numbers` walks the parts of the line: two bytes at least for each number, so that the room holds them all.
use Rattle.std.proofs.Common.{◌≡◌, ◌≤◌, sym, ◌∙◌, arith, rules, tests, eqb, length}
use Rattle.std.proofs.Math.ListN.{length-set}
use Rattle.std.proofs.lemmas.Iterator.Consumers.{YieldsList-turn, YieldsList-end}
use Rattle.std.proofs.lemmas.Iterator.Splits.{YieldsList-from_slice_split}
use Rattle.std.proofs.lemmas.List.{length_push}
use mir.Syntax.{w32}
use mir.Val.{to_z, of_z}
use Rattle.texts.specs.Laws.Walks.{walk-empty, walk-room, walk-number, walk-none, walk-done}
use Rattle.texts.proofs.read_numbers.Goals as goal

pub bounds-out-n : goal.bounds-out-n
bounds-out-n c = let k = c.loop-word in let some : 1 ≤ length c.in-Some.word.now = search rules in
    let t = YieldsList-turn (YieldsList-from_slice_split _ (λ b. eqb b 32) c.args.line.now (cc) (cc) (cc) (λ x r q k. search (rules, tests))) c.loop-word.yielded _ c.loop-word.yielded_by _ _ c.in-Some.word c.in-Some.is c.next.ensures.steps in
    omega (arith, walk-room c.args.line.now c.args.out.now (length k.yielded) k.n k.out k.invariant.walk c.in-Some.word.now t.0 t.1 some, k.invariant.room)

pub returns-in_err-out : goal.returns-in_err-out
returns-in_err-out c = let k = c.loop-word in let some : 1 ≤ length c.in-Some.word.now = search rules in
    let t = YieldsList-turn (YieldsList-from_slice_split _ (λ b. eqb b 32) c.args.line.now (cc) (cc) (cc) (λ x r q k. search (rules, tests))) c.loop-word.yielded _ c.loop-word.yielded_by _ _ c.in-Some.word c.in-Some.is c.next.ensures.steps in
    let no = walk-none c.args.line.now c.args.out.now (length k.yielded) k.n k.out k.invariant.walk c.in-Some.word.now t.0 t.1 some (sym c.in_err-out.ensures) in
    record { answer = c.from_residual.ensures ∙ sym no.0; room = no.1 }

pub loop-word-preserved-then-not-is_empty : goal.loop-word-preserved-then-not-is_empty
loop-word-preserved-then-not-is_empty c = let k = c.loop-word in let z = c.in_ok-out.field-0 in let some : 1 ≤ length c.in-Some.word.now = search rules in
    let same : to_z w32 (of_z w32 z) ≡ z = search rules in
    let t = YieldsList-turn (YieldsList-from_slice_split _ (λ b. eqb b 32) c.args.line.now (cc) (cc) (cc) (λ x r q k. search (rules, tests))) c.loop-word.yielded _ c.loop-word.yielded_by _ _ c.in-Some.word c.in-Some.is c.next.ensures.steps in
    rw (same, length_push k.yielded c.in-Some.word) record {
      few = omega (arith, walk-room c.args.line.now c.args.out.now (length k.yielded) k.n k.out k.invariant.walk c.in-Some.word.now t.0 t.1 some);
      room = length-set k.out k.n _ ∙ k.invariant.room;
      walk = walk-number c.args.line.now c.args.out.now (length k.yielded) k.n k.out k.invariant.walk c.in-Some.word.now t.0 t.1 some z (sym c.in_ok-out.ensures);
    }

pub loop-word-preserved : goal.loop-word-preserved
loop-word-preserved c = let k = c.loop-word in let none : length c.in-Some.word.now ≡ 0 = search rules in
    let t = YieldsList-turn (YieldsList-from_slice_split _ (λ b. eqb b 32) c.args.line.now (cc) (cc) (cc) (λ x r q k. search (rules, tests))) c.loop-word.yielded _ c.loop-word.yielded_by _ _ c.in-Some.word c.in-Some.is c.next.ensures.steps in
    rw (length_push k.yielded c.in-Some.word) record {
      few = k.invariant.few;
      room = k.invariant.room;
      walk = walk-empty c.args.line.now c.args.out.now (length k.yielded) k.n k.out k.invariant.walk c.in-Some.word.now t.0 t.1 none;
    }

pub returns : goal.returns
returns c = let k = c.loop-word in
    let t = YieldsList-end (YieldsList-from_slice_split _ (λ b. eqb b 32) c.args.line.now (cc) (cc) (cc) (λ x r q k. search (rules, tests))) c.loop-word.yielded _ c.loop-word.yielded_by _ _ c.in-None.is c.next.ensures.steps in
    let done = walk-done c.args.line.now c.args.out.now (length k.yielded) k.n k.out k.invariant.walk (omega (arith, t.1)) in
    record { answer = sym done.0; room = λ _. done.1 }
