-- What a refusal stands beside: a verdict is a refusal or nothing at all, and what can be refused is the value or the refusal.
use Rattle.std.specs.Prelude.{Result, Ok, Err}
use Rattle.refusal.specs.declared.Refusal.{Refusal}

abbrev pub Verdict : Type 0
Verdict = Result (Unit {0}) Refusal

abbrev pub accepted : Verdict
accepted = Ok tt

-- what is so where a verdict accepts, and where it refuses
abbrev pub where_accepted : {A : Type 0} → Verdict → A → A → A
where_accepted (Ok ok) x else = x
where_accepted (Err r) x else = else

-- goes on with the value; a refusal is handed up
abbrev pub and_then : {A B : Type 0} → Result A Refusal → (A → Result B Refusal) → Result B Refusal
and_then (Ok x) on = on x
and_then (Err r) on = Err r
