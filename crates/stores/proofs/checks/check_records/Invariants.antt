-- `check_records` walks the store: what is left of it gives the same verdict as all, until a record is refused.
use Rattle.std.proofs.Common.{◌≡◌, drop}
use Rattle.records.specs.Eight.Codes.{code_length}
use Rattle.stores.specs.Stores.{pieces, check_records}
use Rattle.stores.proofs.checks.check_records.Given as goal

abbrev pub invariant-loop-at : goal.invariant-loop-at
invariant-loop-at l =
    check_records l.steps l.q l.m l.k 0 (pieces (code_length l.m l.k) l.store) ≡ check_records l.steps l.q l.m l.k l.at (pieces (code_length l.m l.k) (drop l.at l.store))
