-- RULES 9, the small runs. RULES 9.3: "P1 to P10 are proved"
use Rattle.std.specs.Prelude.{◌≡◌, List, [], ◌∷◌, ◌++◌, ℕ, replicate}
use Rattle.rules.specs.Word.{read_word}
use Rattle.rules.specs.Kinds.{kind_number}
use Rattle.rules.specs.Operations.{shape}
use Rattle.rules.specs.Calls.{Outcome, start_of}
use Rattle.rules.specs.Reference.{Whole, does, pokes}
use Rattle.rules.specs.Runs.{Call, give, step, poke, act, after, with_answer, Fresh}
use Rattle.rules.specs.History.{History}
use Rattle.rules.specs.declared.answers.Record.{Record}
use Rattle.archive.specs.Check.{fletcher}
use Rattle.promises.specs.Demand2.{At, DeliversSc}
use Rattle.rules.specs.declared.kinds.Kind.TheVariants.{Success, Failure}
use Rattle.rules.specs.declared.operations.Operation.TheVariants as Asked
use Rattle.rules.specs.declared.operations.Shape.{Shape}
use Rattle.rules.specs.declared.operations.Shape.TheVariants.{Load, Locks}
use Rattle.rules.specs.declared.answers.Delivered.{Delivered}
use Rattle.rules.specs.declared.answers.Delivered.TheVariants as Answered

-- RULES 9.1: "Each begins fresh, with 3 cores, 64 bytes and 4 entries"
unfoldable pub small : Outcome
small = start_of 3 (replicate 64 0) (replicate 4 0) (replicate 4 0)

-- RULES 9.1: "runs each operation whole, one after the other": given, and stepped to its end; the latest call first
abbrev pub steps_of : Shape → ℕ → List Call
steps_of Load c = step c ∷ []
steps_of (Locks l) c = step c ∷ step c ∷ step c ∷ step c ∷ []

abbrev pub calls_of : Whole → List Call
calls_of (does c o) = steps_of (shape o) c ++ give c o ∷ []
calls_of (pokes a v) = poke a v ∷ []

-- a run that is written in its order
unfoldable pub played : List Whole → List Call → List Call
played [] before = before
played (w ∷ ws) before = played ws (calls_of w ++ before)

-- the answers that finish an operation, the latest first
unfoldable pub finals : List Call → List Delivered
finals [] = []
finals (call ∷ calls) = with_answer (act (after small calls) call).called.answer (finals calls)

-- the word at an address, at the end of a run
unfoldable pub word_after : List Call → ℕ → ℕ
word_after calls a = read_word (after small calls).memory (record { 0 = a })

-- a row: a run, the answers that it ends with, the latest first, and the word at an address at its end; or words and their two sums
pub data Row : Type 0 where
  plays : List Whole → List Delivered → ℕ → ℕ → Row
  sums : List ℕ → ℕ → ℕ → Row

abbrev pub Holds : Row → Type 0
Holds (plays run answers at word) = (finals (played run []) ≡ answers) × (word_after (played run []) at ≡ word)
Holds (sums words first second) = fletcher words ≡ record { first = first; second = second }

abbrev pub ll : ℕ → ℕ → Whole
ll c a = does c (Asked.Ll (record { 0 = a }))

abbrev pub store : ℕ → ℕ → ℕ → Whole
store c a v = does c (Asked.Store (record { 0 = a }) v)

abbrev pub sc : ℕ → ℕ → ℕ → Whole
sc c a v = does c (Asked.Sc (record { 0 = a }) v)

abbrev linked : Delivered
linked = Answered.Ll 0

abbrev stored : Delivered
stored = Answered.Store

abbrev success : Delivered
success = Answered.Sc 0

abbrev failure : Delivered
failure = Answered.Sc 1

-- RULES 11.10: "P1 to P10 stand in one table, under one statement that is proved."
-- Each row stands under that of RULES 9: the operations, the last sc, and what is besides. A row here has all answers, and a word at the end.
abbrev pub rows : List Row
rows =
    -- P1: "c0 ll 8; c0 sc 8 5 | succeeds | word 8 is then 5"
    plays (ll 0 8 ∷ sc 0 8 5 ∷ []) (success ∷ linked ∷ []) 8 5
    -- P2: "c0 ll 8; c1 store 8 7; c1 store 8 0; c0 sc 8 5 | fails | word 8 is then 0"
    ∷ plays (ll 0 8 ∷ store 1 8 7 ∷ store 1 8 0 ∷ sc 0 8 5 ∷ []) (failure ∷ stored ∷ stored ∷ linked ∷ []) 8 0
    -- P3: "c0 ll 8; c1 store 8 7; c0 store 24 9; c0 sc 8 5 | fails"
    ∷ plays (ll 0 8 ∷ store 1 8 7 ∷ store 0 24 9 ∷ sc 0 8 5 ∷ []) (failure ∷ stored ∷ stored ∷ linked ∷ []) 8 7
    -- P4: "c0 ll 8; c1 ll 24; c0 sc 8 5; c1 sc 24 4 | succeeds | the first sc fails"
    ∷ plays (ll 0 8 ∷ ll 1 24 ∷ sc 0 8 5 ∷ sc 1 24 4 ∷ []) (success ∷ failure ∷ linked ∷ linked ∷ []) 24 4
    -- P5: "c0 ll 8; c0 store 8 3; c0 sc 8 5 | succeeds"
    ∷ plays (ll 0 8 ∷ store 0 8 3 ∷ sc 0 8 5 ∷ []) (success ∷ stored ∷ linked ∷ []) 8 5
    -- P6: "c0 ll 8; c0 sc 12 5; c0 sc 8 5 | fails | the first sc fails too"
    ∷ plays (ll 0 8 ∷ sc 0 12 5 ∷ sc 0 8 5 ∷ []) (failure ∷ failure ∷ linked ∷ []) 8 0
    -- P7: "c0 ll 8; c1 store 12 1; c0 sc 8 5 | succeeds"
    ∷ plays (ll 0 8 ∷ store 1 12 1 ∷ sc 0 8 5 ∷ []) (success ∷ stored ∷ linked ∷ []) 8 5
    -- P8: "c0 ll 8; c1 sc 24 4; c0 sc 8 5 | succeeds | the first sc fails"
    ∷ plays (ll 0 8 ∷ sc 1 24 4 ∷ sc 0 8 5 ∷ []) (success ∷ failure ∷ linked ∷ []) 8 5
    -- P9: "c0 ll 8; poke 8 9; c0 sc 8 5 | succeeds | word 8 is then 5"
    ∷ plays (ll 0 8 ∷ pokes (record { 0 = 8 }) 9 ∷ sc 0 8 5 ∷ []) (success ∷ linked ∷ []) 8 5
    -- RULES 9.2: "P10: the words 1 and 2 have the sums 3 and 4, and the word 65,535 alone has 0 and 0"
    ∷ sums (1 ∷ 2 ∷ []) 3 4
    ∷ sums (65535 ∷ []) 0 0
    ∷ []

-- each row holds
abbrev pub Each : List Row → Type 0
Each [] = Unit {0}
Each (row ∷ rest) = Holds row × Each rest

abbrev pub SmallRuns : Type 0
SmallRuns = Each rows

-- The hypotheses of demands 2 and 3 can be met: `small` is fresh, P1's run has an sc that succeeds, and P2's one that fails; their last steps deliver 0 and 1.
pub record Met : Type 0 where
  pub fresh : Fresh small
  pub success : (r : Record) × (earlier : History) × At small (played (ll 0 8 ∷ sc 0 8 5 ∷ []) []) r earlier × (r.kind ≡ kind_number Success)
  pub failure : (r : Record) × (earlier : History) × At small (played (ll 0 8 ∷ store 1 8 7 ∷ store 1 8 0 ∷ sc 0 8 5 ∷ []) []) r earlier × (r.kind ≡ kind_number Failure)
  pub delivers_0 : (calls : List Call) × (played (ll 0 8 ∷ sc 0 8 5 ∷ []) [] ≡ step 0 ∷ calls) × DeliversSc small calls 0 0
  pub delivers_1 : (calls : List Call) × (played (ll 0 8 ∷ store 1 8 7 ∷ store 1 8 0 ∷ sc 0 8 5 ∷ []) [] ≡ step 0 ∷ calls) × DeliversSc small calls 0 1
