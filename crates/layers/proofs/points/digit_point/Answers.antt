-- Eight digits as coefficients.
use Rattle.std.proofs.Common.{◌∙◌, ap, rules, pos}
use Rattle.integers.specs.Laws.Arrays.{from_fn-map}
use Rattle.lattice.specs.Basis.{point_of}
use Rattle.layers.proofs.points.digit_point.Goals as goal

pub returns : goal.returns
returns c = c.point_of.ensures ∙ ap point_of (from_fn-map _ pos c.args.ds.now 0 (pos 0) c.requires c.from_fn.ensures.items (λ k y q l e. search rules))
