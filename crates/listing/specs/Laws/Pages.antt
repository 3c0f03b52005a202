-- Bytes that are put one after the other are put as a whole.
use Rattle.std.specs.Prelude.{◌≡◌, List, ◌++◌, ℕ, ◌+◌, length}
use Rattle.std.proofs.Common.{sym, ◌∙◌, ap, arith, length-append}
use Rattle.std.proofs.Math.Seq.{length-sets}
use Rattle.std.proofs.lemmas.List.Edits.{sets}
use Rattle.listing.specs.declared.lines.Page.{Page}
use Rattle.listing.specs.Pages.{HasRoom, Puts}
use Rattle.texts.specs.Laws.Rooms.{put_next}

-- from the page p on f is to be put; on the page r, g is left of it
pub record Left (p r : Page) (f g : List ℕ) : Type 0 where
  pub same : r.room.ghost_name ≡ p.room.ghost_name
  pub long : length r.room.now ≡ length p.room.now
  pub used : p.used + length f ≡ r.used + length g
  pub room : sets p.room.now p.used f ≡ sets r.room.now r.used g

module _ (p r : Page) (f : List ℕ) where
  -- there is room for what is left
  pub left-fits : (g : List ℕ) → Left p r f g → HasRoom p (length f) → HasRoom r (length g)
  left-fits g l h = omega (arith, l.used, l.long)

  -- the bytes a are put, so that h is left
  pub left-step : (q : Page) (g a h : List ℕ) → Left p r f g → Puts r q a → length g ≡ length a + length h
      → (q.room.now ≡ sets r.room.now r.used a → q.used ≡ r.used + length a → sets r.room.now r.used g ≡ sets q.room.now q.used h) → Left p q f h
  left-step q g a h l put k next = record {
    same = put.same ∙ l.same;
    long = ap length put.room ∙ length-sets r.room.now r.used a ∙ l.long;
    used = omega (arith, l.used, k, put.used);
    room = l.room ∙ next put.room put.used;
  }

-- two parts
module _ (p r : Page) (a b : List ℕ) (first : Puts p r a) where
  pub puts-fits : HasRoom p (length (a ++ b)) → HasRoom r (length b)
  puts-fits h = omega (arith, h, length-append a b, first.used, ap length first.room, length-sets p.room.now p.used a)

  pub puts-both : (q : Page) → Puts r q b → Puts p q (a ++ b)
  puts-both q second = record {
    same = second.same ∙ first.same;
    used = omega (arith, length-append a b, first.used, second.used);
    room = second.room ∙ sym (put_next p.room.now p.used a b r.room.now r.used first.room first.used);
  }
