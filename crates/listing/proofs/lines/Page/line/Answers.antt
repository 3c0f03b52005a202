-- `line` puts the name, the fields and the newline one after the other.
use Rattle.std.proofs.Common.{[], ◌∷◌, ◌++◌, arith, length-append}
use Rattle.listing.specs.Laws.Pages.{puts-both, puts-fits}
use Rattle.listing.specs.Listing.{fields}
use Rattle.texts.specs.Text.{newline}
use Rattle.listing.proofs.lines.Page.line.Goals as goal

pub fields-requires : goal.fields-requires
fields-requires c = let l = fields c.args.l.now in
    omega (arith, puts-fits c.args.self.now c.name.new.self c.args.name.now (l ++ (newline ∷ [])) c.name.ensures c.requires, length-append l (newline ∷ []))

pub put-requires : goal.put-requires
put-requires c = let l = fields c.args.l.now in let n = c.name.new.self in
    puts-fits n c.fields.new.self l (newline ∷ []) c.fields.ensures (puts-fits c.args.self.now n c.args.name.now (l ++ (newline ∷ [])) c.name.ensures c.requires)

pub returns : goal.returns
returns c = let l = fields c.args.l.now in let n = c.name.new.self in
    puts-both c.args.self.now n c.args.name.now (l ++ (newline ∷ [])) c.name.ensures c.put.new.self (puts-both n c.fields.new.self l (newline ∷ []) c.fields.ensures c.put.new.self c.put.ensures)
