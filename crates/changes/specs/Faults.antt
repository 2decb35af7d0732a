-- What can be wrong with a command on a sheet, apart from leaving it without a lawful timetable. Assumes nothing.
use Rattle.std.specs.Prelude.{ℕ, ◌<◌, Bool, true, false, cond, not, ◌||◌, List, [], ◌∷◌, map, Some, None, Option, ◌==◌, nat_le}
use Rattle.std.specs.List.{list_any}
use Rattle.book.specs.Commands.{Instruction, add_step, remove_step, set_duration, put_after, put_within, put_at, remove_rule, set_period, set_span, set_vessels}
use Rattle.changes.specs.Tests.{from, name_fits, has}
use Rattle.changes.specs.declared.faults.CommandFault.{CommandFault}
use Rattle.changes.specs.declared.faults.CommandFault.TheVariants.{StepNumber, StepPresent, StepAbsent, Duration, Kind, Name, RuleNumber, RuleTaken, RuleAbsent, Hours, Carry, Amount, StepNamed}
use Rattle.sheet.specs.Sheets.{numbered}
use Rattle.sheet.specs.declared.forms.Rule.{Rule}
use Rattle.sheet.specs.declared.forms.Rule.TheVariants.{Free, After, Within, At}
use Rattle.sheet.specs.declared.forms.Sheet.{Sheet}

abbrev pub fault_number : CommandFault → ℕ
fault_number StepNumber = 1
fault_number StepPresent = 2
fault_number StepAbsent = 3
fault_number Duration = 4
fault_number Kind = 5
fault_number Name = 6
fault_number RuleNumber = 7
fault_number RuleTaken = 8
fault_number RuleAbsent = 9
fault_number Hours = 10
fault_number Carry = 11
fault_number Amount = 12
fault_number StepNamed = 13

abbrev pub outside : ℕ → ℕ → ℕ → Bool
outside low high n = not (from low high n)

abbrev pub lacks : Sheet → ℕ → Bool
lacks sheet n = not (has sheet n)

abbrev pub is_free : Rule → Bool
is_free Free = true
is_free (After u v gap carry) = false
is_free (Within u v hours) = false
is_free (At v hour) = false

-- whether the number of a rule is not free on a sheet
abbrev pub taken : Sheet → ℕ → Bool
taken sheet r = not (is_free (numbered Free sheet.rules r))

-- whether a rule names a step
abbrev pub names : ℕ → Rule → Bool
names n Free = false
names n (After u v gap carry) = u == n || v == n
names n (Within u v hours) = u == n || v == n
names n (At v hour) = v == n

-- whether any rule of a table does
abbrev pub named : ℕ → List Rule → Bool
named n rules = list_any (names n) rules

-- a fault, and whether a command has it
abbrev pub Check : Type 0
Check = Bool × CommandFault

-- The faults that each command could have, and whether it has them on a sheet, in the order of their numbers.
abbrev pub checks : Sheet → Instruction → List Check
checks sheet (add_step n duration kind name) =
    (outside 1 31 n, StepNumber) ∷ (has sheet n, StepPresent) ∷ (outside 1 999 duration, Duration) ∷ (not (nat_le kind 7), Kind)
    ∷ (not (name_fits name), Name) ∷ []
checks sheet (remove_step n) = (outside 1 31 n, StepNumber) ∷ (lacks sheet n, StepAbsent) ∷ (named n sheet.rules, StepNamed) ∷ []
checks sheet (set_duration n duration) =
    (outside 1 31 n, StepNumber) ∷ (lacks sheet n, StepAbsent) ∷ (outside 1 999 duration, Duration) ∷ []
checks sheet (put_after r u v gap carry) =
    (outside 1 31 u || outside 1 31 v, StepNumber) ∷ (lacks sheet u || lacks sheet v, StepAbsent)
    ∷ (outside 1 96 r, RuleNumber) ∷ (taken sheet r, RuleTaken) ∷ (not (nat_le gap 999), Hours) ∷ (not (nat_le carry 7), Carry) ∷ []
checks sheet (put_within r u v hours) =
    (outside 1 31 u || outside 1 31 v, StepNumber) ∷ (lacks sheet u || lacks sheet v, StepAbsent)
    ∷ (outside 1 96 r, RuleNumber) ∷ (taken sheet r, RuleTaken) ∷ (not (nat_le hours 999), Hours) ∷ []
checks sheet (put_at r v hour) =
    (outside 1 31 v, StepNumber) ∷ (lacks sheet v, StepAbsent)
    ∷ (outside 1 96 r, RuleNumber) ∷ (taken sheet r, RuleTaken) ∷ (not (nat_le hour 1999), Hours) ∷ []
checks sheet (remove_rule r) = (outside 1 96 r, RuleNumber) ∷ (not (taken sheet r), RuleAbsent) ∷ []
checks sheet (set_period hours) = (outside 1 999 hours, Amount) ∷ []
checks sheet (set_span hours) = (outside 1 2000 hours, Amount) ∷ []
checks sheet (set_vessels kind count) = (not (nat_le kind 7), Kind) ∷ (not (nat_le count 16), Amount) ∷ []

-- the first fault of a list that a command has
abbrev pub first_of : List Check → Option CommandFault
first_of [] = None
first_of (check ∷ checks) = cond check.0 (Some check.1) (first_of checks)

-- The first fault of a command on a sheet, if it has one besides leaving no lawful timetable.
abbrev pub first_fault : Sheet → Instruction → Option CommandFault
first_fault sheet i = first_of (checks sheet i)

-- numbers that rise, each above the one before it
abbrev pub Rising : List ℕ → Type 0
Rising [] = Unit {0}
Rising (n ∷ []) = Unit {0}
Rising (n ∷ m ∷ ns) = (n < m) × Rising (m ∷ ns)

-- Checks run in the order of the numbers: so the first fault found has the least number of all that a command has.
abbrev pub ChecksRise : Type 0
ChecksRise = (sheet : Sheet) (i : Instruction) → Rising (map (λ check. fault_number check.1) (checks sheet i))
