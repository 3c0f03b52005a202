-- Refusals by number and place (01, When the unit says no).
use Rattle.std.specs.Prelude.{Bool, true, false, List, [], ◌∷◌, ℕ, Result, Ok, Err}
use Rattle.refusals.specs.declared.Refusal.{Refusal}
use Rattle.refusals.specs.declared.Refusal.TheVariants.{Settings, Steps, Size, Missing, OutOfRange, Overload, Byte, Table, Point, Record, EmptyStore}

-- what a check answers: nothing where it accepts, else the refusal
abbrev pub Verdict : Type 0
Verdict = Result (Unit {0}) Refusal

-- the number of a refusal: its row in 01's table
abbrev pub row_of : Refusal → ℕ
row_of Settings = 1
row_of (Steps p) = 2
row_of (Size p) = 3
row_of (Missing p) = 4
row_of (OutOfRange p) = 5
row_of (Overload p) = 6
row_of (Byte p) = 7
row_of Table = 8
row_of Point = 9
row_of (Record p) = 10
row_of EmptyStore = 11

-- the place that it names
abbrev pub spot_of : Refusal → ℕ
spot_of Settings = 0
spot_of (Steps p) = p
spot_of (Size p) = p
spot_of (Missing p) = p
spot_of (OutOfRange p) = p
spot_of (Overload p) = p
spot_of (Byte p) = p
spot_of Table = 0
spot_of Point = 0
spot_of (Record p) = p
spot_of EmptyStore = 0

-- number and place of an answer: both 0 where nothing is refused
abbrev pub number_of : {A : Type 0} → Result A Refusal → ℕ
number_of (Ok a) = 0
number_of (Err r) = row_of r

abbrev pub place_of : {A : Type 0} → Result A Refusal → ℕ
place_of (Ok a) = 0
place_of (Err r) = spot_of r

-- what an answer says of its checks
abbrev pub verdict_of : {A : Type 0} → Result A Refusal → Verdict
verdict_of (Ok a) = Ok tt
verdict_of (Err r) = Err r

-- accepted where the test holds, else that refusal
abbrev pub unless : Bool → Refusal → Verdict
unless true r = Ok tt
unless false r = Err r

-- an operation's checks in their order: the first that refuses is the answer
abbrev pub first_refusal : List Verdict → Verdict
first_refusal [] = Ok tt
first_refusal (Ok u ∷ l) = first_refusal l
first_refusal (Err r ∷ l) = Err r
