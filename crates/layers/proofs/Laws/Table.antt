-- Row i of the fixed table is the layer point of the digits whose entry number is i.
use Rattle.std.specs.Prelude.{◌≡◌, List, ℕ, ◌*◌, ◌<◌, length, take, drop}
use Rattle.std.proofs.Common.{◌∙◌, ap, arith}
use Rattle.layers.specs.Digits.{IsLayer, entry_of, digits_of}
use Rattle.layers.specs.E8.{e8, nearest, layer_point8}
use Rattle.layers.specs.Laws.Entries.{entry_of-less, digits_of-entry_of, digits_of-layer, row_at, rows_long}
use Rattle.layers.proofs.Laws.Splitting.{layer_point-in}
use Rattle.layers.specs.Table.{layer_table}

module _ (i : ℕ) where
  row-long : length (layer_point8 2 (digits_of 2 8 i)) ≡ 8
  row-long = (layer_point-in e8 nearest 2 (omega arith) (digits_of 2 8 i) (digits_of-layer 2 (omega arith) 8 i)).long

pub table-long : length layer_table ≡ 2048
unfolding layer_table
table-long = rows_long (λ (i : ℕ). layer_point8 2 (digits_of 2 8 i)) 8 row-long 0 256

pub table-row : (ds : List ℕ) → IsLayer 8 2 ds → take 8 (drop (8 * entry_of 2 ds) layer_table) ≡ layer_point8 2 ds
unfolding layer_table
table-row ds h =
    let l : entry_of 2 ds < 256 = rw h.long at (entry_of-less 2 ds h.below) in
    row_at (λ (i : ℕ). layer_point8 2 (digits_of 2 8 i)) 8 row-long 0 256 (entry_of 2 ds) l
    ∙ ap (layer_point8 2) (ap (digits_of 2 8) (omega arith) ∙ digits_of-entry_of 2 8 ds h.long h.below)
