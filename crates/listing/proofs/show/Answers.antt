-- `show` gives what is put on an empty page: that page's room is the lent one.
use Rattle.std.proofs.Common.{◌≡◌, ◌∙◌, sym, ap₂, arith, rules, List, ℕ, ◌++◌, length, drop}
use Rattle.std.proofs.lemmas.List.Edits.{sets}
use Rattle.listing.specs.Laws.Lengths.{shown-most}
use Rattle.listing.specs.Listing.{shown}
use Rattle.texts.specs.Laws.Rooms.{sets-front}
use Rattle.listing.proofs.show.Goals as goal

pub returns : goal.returns
returns c = let t = c.args.given.now in let p = c.new-page.ensures in let puts = c.show_text.ensures in
    let put : c.show_text.new.page.room.now ≡ shown t ++ drop (length (shown t)) c.args.out.now
    = puts.room ∙ ap₂ (λ (l : List ℕ) (j : ℕ). sets l j (shown t)) p.room p.used ∙ sets-front c.args.out.now (shown t) (omega (arith, shown-most t, c.requires)) in record {
      answer = omega (arith, puts.used, p.used);
      room = rw (sym put) (search rules);
    }
