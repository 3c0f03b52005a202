-- What is put on a page of lent room: bytes after those that stand there; the rest of the room stays as found.
use Rattle.std.specs.Prelude.{◌≡◌, List, ℕ, ◌+◌, ◌≤◌, length}
use Rattle.std.proofs.lemmas.List.Edits.{sets}
use Rattle.listing.specs.declared.lines.Page.{Page}

-- n more bytes fit
abbrev pub HasRoom : Page → ℕ → Type 0
HasRoom p n = p.used + n ≤ length p.room.now

-- the page p becomes r, over the same room, by the bytes f
pub record Puts (p r : Page) (f : List ℕ) : Type 0 where
  pub same : r.room.ghost_name ≡ p.room.ghost_name
  pub used : r.used ≡ p.used + length f
  pub room : r.room.now ≡ sets p.room.now p.used f
