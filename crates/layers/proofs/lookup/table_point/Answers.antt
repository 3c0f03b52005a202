-- The row of the table at the digits' entry number is their layer point.
use Rattle.std.proofs.Common.{◌≡◌, ◌∙◌, ap, ap₂, subst, rules, List, ℕ, ◌+◌, ◌*◌, ◌-◌, ◌^◌, ◌<◌, ◌≤◌, ℤ, pos, length, take, drop, arith, length-take, length-drop}
use Rattle.integers.specs.Laws.Arrays.{from_fn-list}
use Rattle.layers.specs.Digits.{IsLayer, entry_of}
use Rattle.layers.specs.Laws.Entries.{entry_of-less}
use Rattle.layers.specs.Table.{layer_table}
use Rattle.layers.proofs.Laws.Table.{table-long, table-row}
use Rattle.layers.proofs.lookup.table_point.Goals as goal

-- the entry number is below 256
small : (ds : List ℕ) → IsLayer 8 2 ds → {n : ℕ} → n ≡ entry_of 2 ds → n < 256
small ds h e = let l : entry_of 2 ds < 2 ^ 8 = subst (λ (n : ℕ). entry_of 2 ds < 2 ^ n) h.long (entry_of-less 2 ds h.below) in omega (arith, e, l)

-- the row lies within the table
within : (t : List ℤ) → t ≡ layer_table → {n : ℕ} → n < 256 → 8 * n + 8 ≤ length t
within t e l = omega (arith, ap length e, table-long)

pub overflow_mul-at : goal.overflow_mul-at
overflow_mul-at c = omega (arith, small c.args.ds.now c.requires.1 c.entry_number-at.ensures)

pub overflow_add-row : goal.overflow_add-row
overflow_add-row c = omega (arith, small c.args.ds.now c.requires.1 c.entry_number-at.ensures)

pub slice_bounds-row-end : goal.slice_bounds-row-end
slice_bounds-row-end c = within c.args.t.now c.requires.0 (small c.args.ds.now c.requires.1 c.entry_number-at.ensures)

pub returns : goal.returns
returns c =
    let n = c.entry_number-at.result in let t = c.args.t.now in let ds = c.args.ds.now in
    let w : 8 * n + 8 - 8 * n ≡ 8 = omega arith in
    let l : 8 * n + 8 ≤ length t = within t c.requires.0 (small ds c.requires.1 c.entry_number-at.ensures) in
    from_fn-list _ (take (8 * n + 8 - 8 * n) (drop (8 * n) t)) (pos 0) (simp (length-take, length-drop) (omega (arith, l))) c.from_fn.ensures.items (λ k y q l e. search rules)
    ∙ ap (λ (k : ℕ). take k (drop (8 * n) t)) w ∙ ap₂ (λ (k : ℕ) (u : List ℤ). take 8 (drop (8 * k) u)) c.entry_number-at.ensures c.requires.0 ∙ table-row ds c.requires.1
