-- The limits of document 01, by name.
use Rattle.std.specs.Prelude.{ℕ, ◌^◌}

-- q (01, Layers and steps)
abbrev pub q_least : ℕ
q_least = 2

abbrev pub q_most : ℕ
q_most = 16

-- M, the number of layers
abbrev pub m_least : ℕ
m_least = 1

abbrev pub m_most : ℕ
m_most = 4

-- q^M
abbrev pub power_most : ℕ
power_most = 4096

-- how many steps a list has at most, and how large each is
abbrev pub steps_most : ℕ
steps_most = 4

abbrev pub step_most : ℕ
step_most = 1024

-- a coordinate of a doubled point, or of what the nearest point is asked for (01, The lattice)
abbrev pub point_most : ℕ
point_most = 2 ^ 26

-- K, the number of blocks of a vector (01, Readings and units)
abbrev pub blocks_most : ℕ
blocks_most = 64
