-- 01, "What the contracts have to say": for all inputs a public function's contract determines its answer, the machine and each lent byte
-- afterwards, refusals included. Said here once, of any contract; a crate's proofs/Determined.antt says it of each of its public functions, of
-- the very contract that the function is proved to meet. `f.clauses` is made of the `requires` and `ensures` of f, and `f.ended` of its signature.
use Rattle.std.specs.Prelude.{◌≡◌}
use seplogic.Ra.Ura.{Ura}
use base.Logic.{SProp, ent, emp}
use prog.Memory.{Memory}
use prog.Routine.{Routine}
use types.Logic.{Logic}
use contract.Monad.{Fun}
use contract.Lifetimes.{Lfts}
use denote.Triple.Entry.{Args, Res}
use denote.Triple.Clauses.{Ended, Clauses, ClausesAt, Lasts, at_exit}

-- a function's clauses, in every model of the logic that has M for its resources
abbrev pub Contract : Type 1 → Ended → Type 2
Contract M f = (𝓤 : Ura M) (𝓛 : Logic 𝓤) → (Memory → SProp 𝓤) → (Routine → Fun 𝓤) → Clauses 𝓤 f

module _ (M : Type 1) (f : Ended) (c : Contract M f) where
  -- a model, and in it what the function is passed
  pub record Input : Type 2 where
    pub 𝓤 : Ura M
    pub 𝓛 : Logic 𝓤
    pub mem : Memory → SProp 𝓤
    pub run : Routine → Fun 𝓤
    pub lifetimes : Lfts f.signature.lifetimes
    pub args : Args f.signature lifetimes
    pub ghost : (c 𝓤 𝓛 mem run lifetimes args).ghost

  abbrev clauses : (i : Input) → ClausesAt i.𝓤 f i.lifetimes
  clauses i = c i.𝓤 i.𝓛 i.mem i.run i.lifetimes i.args

  -- the answer, and what is left behind each `&mut`
  abbrev pub Outcome : Input → Type 0
  Outcome i = Res f.signature i.lifetimes × Lasts f i.lifetimes i.args

  abbrev pub required : (i : Input) → SProp i.𝓤
  required i = (clauses i).requires i.ghost

  abbrev pub ensured : (i : Input) → Outcome i → SProp i.𝓤
  ensured i x = (clauses i).ensures i.ghost x.0 (at_exit f i.lifetimes i.args x.1)

  -- an outcome is allowed if what is ensured holds of it, with some resource or other
  abbrev pub Allowed : (i : Input) → Outcome i → Type 1
  Allowed i x = (m : M) × (ensured i x).holds m

  pub record Determines : Type 2 where
    -- nothing is required
    pub for_all_inputs : (i : Input) → ent i.𝓤 (emp i.𝓤) (required i)
    -- any two outcomes that are allowed coincide. (In bars: an assertion tells that they do, and not by which path.)
    pub one_outcome : (i : Input) (x y : Outcome i) → Allowed i x → Allowed i y → ∥ x ≡ y ∥₁
