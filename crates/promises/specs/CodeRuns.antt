-- A run that the code makes, call by call, is a run of the rules (rules/specs/Runs.antt), of which demands 2 and 3 speak.
use Rattle.std.specs.Prelude.{◌≡◌, ◌⊎◌, List, [], ◌∷◌, ℕ}
use Rattle.rules.specs.Refusals.{number_in}
use Rattle.rules.specs.Calls.{Outcome, outcome, PokeOutcome}
use Rattle.rules.specs.Runs.{Call, give, step, poke, act, Fresh, after}
use Rattle.rules.specs.declared.state.Called.{Called}
use Rattle.promises.specs.MachineReadings.{StartLeaves, GiveLeaves, GiveInPlaceLeaves, StepLeaves, StepInPlaceLeaves, PokeLeaves}

-- RULES 1.9: "A run begins with a fresh machine (6.16)": what a start leaves that is not refused
pub record Begins (o : Outcome) : Type 0 where
  pub count : ℕ
  pub memory : List ℕ
  pub owners : List ℕ
  pub holders : List ℕ
  pub started : StartLeaves count memory owners holders o
  pub accepted : number_in o.called.answer ≡ 0

-- RULES 1.9: "and goes on with any sequence of gives, micro-steps and pokes by the bench": a give and a step in either form (RULES 4.35, 4.36)
abbrev pub Makes : Outcome → Call → Outcome → Type 0
Makes o (give core operation) x =
    (called : Called) × (GiveLeaves o.called.machine core operation called ⊎ GiveInPlaceLeaves o.called.machine core operation called) × (x ≡ outcome called o.memory o.owners o.holders)
Makes o (step core) x = StepLeaves o.called.machine o.memory o.owners o.holders core x ⊎ StepInPlaceLeaves o.called.machine o.memory o.owners o.holders core x
Makes o (poke a value) x = (poked : PokeOutcome) × PokeLeaves o.called.machine o.memory a value poked × (x ≡ outcome poked.called poked.memory o.owners o.holders)

-- RULES 1.9: "Each is made on the state and on the buffers as the call before it left them, and nothing else writes these buffers."
abbrev pub RunsTo : Outcome → List Call → Outcome → Type 0
RunsTo fresh [] x = x ≡ fresh
RunsTo fresh (call ∷ calls) x = (o : Outcome) × RunsTo fresh calls o × Makes o call x

pub record CodeRuns : Type 0 where
  pub begins_fresh : (o : Outcome) → Begins o → Fresh o
  pub call_acts : (o x : Outcome) (call : Call) → Makes o call x → x ≡ act o call
  pub runs : (fresh x : Outcome) (calls : List Call) → RunsTo fresh calls x → x ≡ after fresh calls
