-- A code as one value: the lattice, the rule that rounds to it, q and how many layers. All that a record's bytes mean goes by it.
use Rattle.std.specs.Prelude.{ℕ, nat_abs}
use Rattle.layers.specs.E8.{e8, nearest}
use Rattle.layers.specs.Rule.{Lattice, Rule}
use Rattle.refusals.specs.declared.settings.Settings.{Settings}

pub record Code : Type 1 where
  pub lattice : Lattice
  pub rule : Rule lattice
  pub q : ℕ
  pub m : ℕ

-- how many readings a block has, and how many digits a layer
abbrev pub size_of : Code → ℕ
size_of C = C.lattice.size

-- E8 with the nearest point
abbrev pub code8 : ℕ → ℕ → Code
code8 q m = record { lattice = e8; rule = nearest; q = q; m = m }

-- with the q and M of settings
abbrev pub eight_of : Settings → Code
eight_of c = code8 (nat_abs c.q) (nat_abs c.m)

-- the code that settings name
abbrev pub code_of : Settings → Code
code_of c = eight_of c
