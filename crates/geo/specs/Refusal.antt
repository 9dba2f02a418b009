-- The numbers of the causes for which a call is refused, and what a call's result says by them. Definitions only.
use Rattle.std.specs.Prelude.{ℕ, Result, Ok, Err}
use Rattle.geo.specs.declared.refusal.Refusal.{Refusal}
use Rattle.geo.specs.declared.refusal.Refusal.TheVariants.{NotWhole, TooMany, BadFile, BadCommand, BadNumber, BadTolerance, NoSuch, TooMuch, NoRoom, Closed, NotDrawable, OldTicket, FullSession, BadText}
use Rattle.geo.specs.Outcome.{Outcome, refused, gives}

-- the number of a cause in the table
abbrev pub number : Refusal → ℕ
number NotWhole = 1
number TooMany = 2
number BadFile = 3
number BadCommand = 4
number BadNumber = 5
number BadTolerance = 6
number NoSuch = 7
number TooMuch = 8
number NoRoom = 9
number Closed = 10
number NotDrawable = 11
number OldTicket = 12
number FullSession = 13
number BadText = 14

-- the number of the refusal that a result is, or 0
abbrev pub refused_by : {A : Type 0} → Result A Refusal → ℕ
refused_by (Ok a) = 0
refused_by (Err cause) = number cause

-- the refusal or the value that a result says
abbrev pub outcome : {A : Type 0} → Result A Refusal → Outcome A
outcome (Ok a) = gives a
outcome (Err cause) = refused (number cause)
