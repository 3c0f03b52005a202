-- `put_layer` goes down the rows: after j turns the first j have their digit.
use mathlib.Core.Path.{◌≡◌, sym, ◌∙◌}
use mathlib.Core.List.{List}
use Prim.Native.Nat.{ℕ, ◌+◌, ◌≤◌}
use native.Mathlib.Omega.{arith}
use lib.ListN.{length, get_or, drop, length-take, length-drop}
use lib.Seq.{get_or-take, get_or-drop}
use Rattle.points.specs.Laws.Lanes.{putting-more}
use Rattle.points.proofs.put_layer.Goals as goal
use Rattle.points.proofs.put_layer.Invariants.{part}

part-long : (f : List ℕ) (a : ℕ) → a + 8 ≤ length f → length (part f a) ≡ 8
part-long f a h = simp (length-take, length-drop) (omega arith)

pub loop-j-preserved : goal.loop-j-preserved
loop-j-preserved c = let a = c.args in let j = c.loop-j.j in let f = a.body.now in putting-more a.t c.requires.1 (part f a.a) (part-long f a.a c.requires.0) a.c.now j c.loop-j.c c.loop-j.invariant
    (get_or f (a.a + j) 0) (sym (get_or-take 8 (drop a.a f) j 0 c.loop-j-test.true ∙ get_or-drop a.a f j 0)) c.loop-j-test.true
