-- The numbers by which the rules call a refusal.
use Rattle.std.specs.Prelude.{ℕ, Result, Ok, Err}
use Rattle.player.specs.declared.refusal.Unfit.{Unfit}
use Rattle.player.specs.declared.refusal.Unfit.TheVariants as Unfits
use Rattle.player.specs.declared.refusal.Refusal.{Refusal}
use Rattle.player.specs.declared.refusal.Refusal.TheVariants as Refusals

abbrev pub unfit_number : Unfit → ℕ
unfit_number Unfits.Size = 10
unfit_number Unfits.Screen = 11
unfit_number Unfits.Field = 12
unfit_number Unfits.List = 13
unfit_number Unfits.Budget = 14

-- of a door: 0 where it lets in
abbrev pub door_number : {A : Type 0} → Result A Unfit → ℕ
door_number (Ok x) = 0
door_number (Err u) = unfit_number u

abbrev pub number_of : Refusal → ℕ
number_of Refusals.PastEnd = 20
number_of Refusals.Unknown = 21
number_of Refusals.Cut = 22
number_of Refusals.Misnamed = 23
number_of Refusals.NotAllowed = 24
number_of Refusals.Outside = 25
number_of Refusals.ByZero = 26
number_of Refusals.NoTarget = 27
number_of Refusals.TooDeep = 28
number_of Refusals.NoneOpen = 29
