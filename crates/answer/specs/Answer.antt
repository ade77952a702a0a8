-- 01's word and number of each answer, as its listing shows them; and the answer that gives a future's outcome.
use Rattle.std.specs.Prelude.{ℕ, List, [], ◌∷◌, Option, Result, Ok, Err, unwrap_or}
use Rattle.refusal.specs.declared.Refusal.{Refusal}
use Rattle.refusal.specs.Numbers.{number_of}
use Rattle.answer.specs.declared.CallResult.{CallResult}
use Rattle.answer.specs.declared.CallResult.TheVariants as call_result
use Rattle.answer.specs.declared.Answer.{Answer}
use Rattle.answer.specs.declared.Answer.TheVariants.{Started, Future, Ended, More}

-- what an entry is told: its answer, or why it is refused
abbrev pub AnswerOrRefusal : Type 0
AnswerOrRefusal = Result Answer Refusal

-- started future ok item empty more refused, as bytes
abbrev pub word : AnswerOrRefusal → List ℕ
word (Ok Started) = 115 ∷ 116 ∷ 97 ∷ 114 ∷ 116 ∷ 101 ∷ 100 ∷ []
word (Ok (Future f)) = 102 ∷ 117 ∷ 116 ∷ 117 ∷ 114 ∷ 101 ∷ []
word (Ok (Ended call_result.Ok)) = 111 ∷ 107 ∷ []
word (Ok (Ended (call_result.Item v))) = 105 ∷ 116 ∷ 101 ∷ 109 ∷ []
word (Ok (Ended call_result.Empty)) = 101 ∷ 109 ∷ 112 ∷ 116 ∷ 121 ∷ []
word (Ok More) = 109 ∷ 111 ∷ 114 ∷ 101 ∷ []
word (Err r) = 114 ∷ 101 ∷ 102 ∷ 117 ∷ 115 ∷ 101 ∷ 100 ∷ []

-- value (0 where none): the future's number, the item, the refusal's number
abbrev pub value : AnswerOrRefusal → ℕ
value (Ok Started) = 0
value (Ok (Future f)) = f
value (Ok (Ended call_result.Ok)) = 0
value (Ok (Ended (call_result.Item v))) = v.value
value (Ok (Ended call_result.Empty)) = 0
value (Ok More) = 0
value (Err r) = number_of r

-- what a future holds: none while it waits, then the result of its call
abbrev pub Outcome : Type 0
Outcome = Option CallResult

-- no batch's end leaves its future waiting
abbrev pub answered : Outcome → Answer
answered o = Ended (unwrap_or o call_result.Empty)
