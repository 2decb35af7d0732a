-- Whether a command's values keep the limits of a sheet. Assumes nothing.
use Rattle.std.specs.Prelude.{ℕ, Bool, false, ◌&&◌, List, length, ◌==◌, nat_le}
use Rattle.std.specs.List.{list_all}
use Rattle.book.specs.Commands.{Instruction, add_step, remove_step, set_duration, put_after, put_within, put_at, remove_rule, set_period, set_span, set_vessels}
use Rattle.sheet.specs.Sheets.{has_step, rule_sheet}
use Rattle.sheet.specs.declared.forms.Sheet.{Sheet}

-- from low to high, both included
abbrev pub from : ℕ → ℕ → ℕ → Bool
from low high n = nat_le low n && nat_le n high

-- every byte is a printable sign, from the space to the tilde
abbrev pub printable : List ℕ → Bool
printable bs = list_all (from 0x20 0x7E) bs

-- a step's name: eight printable bytes
abbrev pub name_fits : List ℕ → Bool
name_fits name = length name == 8 && printable name

-- A command that puts a step, a rule, the period or the span on a sheet keeps every limit: the numbers of steps and
-- rules, the values, and that the steps which a rule names are there. The other commands put nothing on a sheet.
abbrev pub in_limits : (ℕ → Bool) → Instruction → Bool
in_limits there (add_step n duration kind name) = from 1 31 n && (from 1 999 duration && (nat_le kind 7 && name_fits name))
in_limits there (remove_step n) = false
in_limits there (set_duration n duration) = false
in_limits there (put_after r u v gap carry) = from 1 96 r && (there u && (there v && (nat_le gap 999 && nat_le carry 7)))
in_limits there (put_within r u v hours) = from 1 96 r && (there u && (there v && nat_le hours 999))
in_limits there (put_at r v hour) = from 1 96 r && (there v && nat_le hour 1999)
in_limits there (remove_rule r) = false
in_limits there (set_period hours) = from 1 999 hours
in_limits there (set_span hours) = from 1 2000 hours
in_limits there (set_vessels kind count) = false

-- whether step n is on a full sheet
abbrev pub has : Sheet → ℕ → Bool
has sheet n = has_step (rule_sheet sheet) n

abbrev pub puts_in_limits : Sheet → Instruction → Bool
puts_in_limits sheet i = in_limits (has sheet) i
