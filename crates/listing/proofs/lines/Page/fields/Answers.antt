-- `fields` puts field after field: a space and the number.
use Rattle.std.proofs.Common.{◌≡◌, arith, rules, [], ◌∷◌, ◌+◌, length, drop}
use Rattle.integers.specs.Vectors.{«at»}
use Rattle.listing.specs.Laws.Lines.{fields-long, fields-next}
use Rattle.listing.specs.Laws.Pages.{left-fits, left-step, puts-both, puts-fits}
use Rattle.listing.specs.Listing.{fields, written}
use Rattle.listing.specs.Pages.{HasRoom, Puts}
use Rattle.texts.specs.Text.{space}
use mir.Syntax.{w64}
use mir.Val.{to_z, of_z}
use Rattle.listing.proofs.lines.Page.fields.Goals as goal

pub put-requires : goal.put-requires
put-requires c = let k = c.loop-z in let l = c.args.l.now in
    omega (arith, fields-long l k.z-index c.loop-z-test.true, left-fits c.args.self.now k.self (fields l) (fields (drop k.z-index l)) k.invariant c.requires)

pub number-requires : goal.number-requires
number-requires c = let k = c.loop-z in let l = c.args.l.now in let z = «at» l k.z-index in
    let same : to_z w64 (of_z w64 z) ≡ z = search rules in
    let fits : HasRoom k.self (length (space ∷ written z)) = omega (arith, fields-long l k.z-index c.loop-z-test.true, left-fits c.args.self.now k.self (fields l) (fields (drop k.z-index l)) k.invariant c.requires) in
    rw same (puts-fits k.self c.put.new.self (space ∷ []) (written z) c.put.ensures fits)

pub loop-z-preserved : goal.loop-z-preserved
loop-z-preserved c = let k = c.loop-z in let l = c.args.l.now in let i = k.z-index in let within = c.loop-z-test.true in
    let same : to_z w64 (of_z w64 («at» l i)) ≡ «at» l i = search rules in
    let field : Puts k.self c.number.new.self (space ∷ written («at» l i)) = rw same at (puts-both k.self c.put.new.self (space ∷ []) _ c.put.ensures c.number.new.self c.number.ensures) in
    left-step c.args.self.now k.self (fields l) c.number.new.self (fields (drop i l)) (space ∷ written («at» l i)) (fields (drop (i + 1) l)) k.invariant
    field (omega (arith, fields-long l i within)) (λ e h. fields-next l i within k.self.room.now k.self.used _ _ e (omega (arith, h)))
