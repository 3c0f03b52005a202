-- `layers` puts layer after layer.
use Rattle.std.proofs.Common.{◌≡◌, ap, arith, List, ℕ, ◌+◌, ◌*◌, ◌-◌, length, take, drop, length-take, length-drop}
use Rattle.layers.specs.Digits.{cut}
use Rattle.records.specs.Laws.Parts.{cut-whole, part-ends}
use Rattle.listing.specs.Laws.Lines.{layers_from, layers-long, layers-next}
use Rattle.listing.specs.Laws.Pages.{left-fits, left-step}
use Rattle.listing.specs.Listing.{layer_line, layer_lines}
use Rattle.listing.specs.Pages.{HasRoom, Puts}
use Rattle.listing.proofs.lines.Page.layers.Goals as goal

-- a layer's digits, as they are lent
lent : (k : ℕ) (ds : List ℕ) → take (8 * k + 8 - 8 * k) (drop (8 * k) ds) ≡ take 8 (drop (8 * k) ds)
lent k ds = let e : 8 * k + 8 - 8 * k ≡ 8 = omega arith in ap (λ (j : ℕ). take j (drop (8 * k) ds)) e

pub layer-requires : goal.layer-requires
layer-requires c =
    let k = c.loop-k in let ds = c.args.ds.now in let m = c.args.m in let within = c.loop-k-test.true in
    let all : layer_lines 0 (cut 8 m ds) ≡ layers_from ds m 0 = ap (layer_lines 0) (cut-whole 8 ds m) in
    let fits : HasRoom k.self (length (layer_line k.k (take 8 (drop (8 * k.k) ds)))) = omega (arith, layers-long ds m k.k within, left-fits c.args.self.now k.self (layers_from ds m 0) (layers_from ds m k.k) k.invariant (rw all at c.requires.2)) in
    rw (lent k.k ds) (omega (arith, within, c.requires.0), simp (length-take, length-drop) (omega (arith, part-ends 8 k.k m within, c.requires.1)), fits)

pub loop-k-preserved : goal.loop-k-preserved
loop-k-preserved c =
    let k = c.loop-k in let ds = c.args.ds.now in let m = c.args.m in let within = c.loop-k-test.true in let layer = layer_line k.k (take 8 (drop (8 * k.k) ds)) in
    let put : Puts k.self c.layer.new.self layer = rw (lent k.k ds) at c.layer.ensures in
    left-step c.args.self.now k.self (layers_from ds m 0) c.layer.new.self (layers_from ds m k.k) layer (layers_from ds m (k.k + 1)) k.invariant
    put (layers-long ds m k.k within) (λ e h. layers-next ds m k.k within k.self.room.now k.self.used _ _ e h)
