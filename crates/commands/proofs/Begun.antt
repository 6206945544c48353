-- What a `new` leaves, and the lines before the first that is accepted.
-- Assumes nothing.
use Rattle.std.specs.Prelude.{Option, Some, None, is_some, Ok, Err}
use Rattle.std.specs.Option.{option_map_or}
use Rattle.std.proofs.Common.{if◌then◌else◌}
use mathlib.Core.Path.{◌≡◌, refl, ap, ◌∙◌, sym, subst}
use mathlib.Core.Bool.{Bool, true, false, ◌&&◌, true≢false}
use mathlib.Core.List.{List, ◌++◌}
use Prim.Native.Nat.{ℕ}
use native.Mathlib.Omega.{arith}
use lib.ListN.{length, take, drop, take-append-drop}
use lib.Seq.{length-take-le}
use lib.Dec.{leb}
use borrow.Author.Tests.{leb-true}
use Rattle.rules.specs.Refusals.{Tested, unless_refused, number_in}
use Rattle.rules.proofs.Numbers.{refusals_numbered}
use Rattle.rules.specs.Calls.{Outcome, outcome, refused, all_idle, started, start_refusal, start_of}
use Rattle.rules.specs.declared.state.Machine.{Machine}
use Rattle.rules.specs.declared.state.Called.{Called}
use Rattle.rules.specs.declared.refusals.Refusal.{Refusal}
use Rattle.rules.specs.declared.refusals.Refusal.TheVariants.{LentLengths, NoMachine}
use Rattle.commands.specs.Grammar.{command_of}
use Rattle.machine.specs.declared.calls.step.Stepped.{Stepped}
use Rattle.commands.specs.Effect.{LineOutcome, line_outcome, line_refused, session_started, stands, new_fits, line_started, new_of}
use Rattle.commands.specs.Effect.{once_begun, give_line, step_line, poke_line, show_line, run_command, run_line}
use Rattle.commands.specs.Promises.{Kept, KeptIfRefused, Afresh, AcceptedNewStartsAfresh, is_new, NineBeforeTen}
use Rattle.commands.specs.declared.grammar.Command.{Command}
use Rattle.commands.specs.declared.grammar.Command.TheVariants.{New, Give, Step, Poke, Show}
use Rattle.commands.specs.declared.effect.Session.{Session}
use Rattle.rules.proofs.Bools.{and₂}

module _ (session : Session) (memory owners holders : List ℕ) where
  pub refused_line_leaves : (r : Refusal) → Kept session memory owners holders (line_refused r session memory owners holders)
  refused_line_leaves r = record { same_session = refl; same_memory = refl; same_owners = refl; same_holders = refl; nothing_made = refl; no_value = refl }

module _ (session : Session) (memory owners holders : List ℕ) (cores bytes entries : ℕ) where
  -- by its refusal
  start_by : Tested → Outcome
  start_by t =
      unless_refused t (λ n. outcome (refused n (all_idle 0 0 0)) (take bytes memory) (take entries owners) (take entries holders))
      (started cores (take bytes memory) (take entries owners) (take entries holders))

  started_by : Tested → LineOutcome
  started_by t = line_started session bytes entries memory owners holders (start_by t)

  fits : Bool
  fits = new_fits bytes entries (length memory) (length owners) (length holders)

  refusal : Tested
  refusal = start_refusal cores (length (take bytes memory)) (length (take entries owners)) (length (take entries holders))

  new_by : Bool → LineOutcome
  new_by f = if f then started_by refusal else line_refused LentLengths session memory owners holders

  by_tests : new_of session memory owners holders cores bytes entries ≡ new_by fits
  unfolding new_of start_of new_by fits refusal started_by start_by
  by_tests = refl

  refused_keeps : (t : Tested) → (number_in (started_by t).answer ≡ 0 → ⊥) → Kept session memory owners holders (started_by t)
  unfolding started_by start_by
  refused_keeps (Ok _) h = absurd (h refl)
  refused_keeps (Err n) h =
      record {
        same_session = refl;
        same_memory = take-append-drop bytes memory;
        same_owners = take-append-drop entries owners;
        same_holders = take-append-drop entries holders;
        nothing_made = refl;
        no_value = refl;
      }

  new_keeps : (f : Bool) → (number_in (new_by f).answer ≡ 0 → ⊥) → Kept session memory owners holders (new_by f)
  unfolding new_by
  new_keeps true h = refused_keeps refusal h
  new_keeps false h = refused_line_leaves session memory owners holders LentLengths

  accepted_afresh : (t : Tested) → fits ≡ true → number_in (started_by t).answer ≡ 0 → Afresh memory owners holders cores bytes entries (started_by t)
  unfolding started_by start_by fits
  accepted_afresh (Err n) f h = absurd (refusals_numbered n h)
  accepted_afresh (Ok _) f h =
      let k = and₂ (leb bytes 16384 && leb bytes (length memory)) (leb entries (length owners) && leb entries (length holders)) f in
      let tables = and₂ (leb entries (length owners)) (leb entries (length holders)) k.1 in
      let m = length-take-le bytes memory (leb-true bytes (length memory) (and₂ (leb bytes 16384) (leb bytes (length memory)) k.0).1) in
      let o = length-take-le entries owners (leb-true entries (length owners) tables.0) in
      let q = length-take-le entries holders (leb-true entries (length holders) tables.1) in
      record {
        ready = refl;
        runs = rw (m, o);
        new_memory = rw m;
        new_owners = rw o;
        new_holders = rw q;
      }

  new_afresh : (f : Bool) → fits ≡ f → number_in (new_by f).answer ≡ 0 → Afresh memory owners holders cores bytes entries (new_by f)
  unfolding new_by
  new_afresh true f h = accepted_afresh refusal f h
  new_afresh false f h = absurd (omega (arith, h))

-- as the code tells
pub after_new : (session : Session) (memory owners holders : List ℕ) (cores bytes entries : ℕ) → new_fits bytes entries (length memory) (length owners) (length holders) ≡ true
    → (called : Called) (m' o' h' : List ℕ) → outcome called m' o' h' ≡ start_of cores (take bytes memory) (take entries owners) (take entries holders)
    → (session' : Session) → session' ≡ session_started session called
    → line_outcome (record { answer = called.answer; made = called.made }) session' (m' ++ drop bytes memory) (o' ++ drop entries owners) (h' ++ drop entries holders)
    ≡ new_of session memory owners holders cores bytes entries
unfolding new_of
after_new session memory owners holders cores bytes entries fits called m' o' h' e session' r =
    let told : Stepped = record { answer = called.answer; made = called.made } in
    let left = line_started session bytes entries memory owners holders in
    let there : line_outcome told session' (m' ++ drop bytes memory) (o' ++ drop entries owners) (h' ++ drop entries holders) ≡ left (outcome called m' o' h') = rw r in
    rw fits (there ∙ ap left e)

pub refused_new_leaves : (session : Session) (memory owners holders : List ℕ) (cores bytes entries : ℕ)
    → KeptIfRefused session memory owners holders (new_of session memory owners holders cores bytes entries)
refused_new_leaves session memory owners holders cores bytes entries h =
    let e = by_tests session memory owners holders cores bytes entries in
    subst (λ (o : LineOutcome). Kept session memory owners holders o) (sym e)
    (new_keeps session memory owners holders cores bytes entries (fits session memory owners holders cores bytes entries)
    (λ z. h (ap (λ (o : LineOutcome). number_in o.answer) e ∙ z)))

pub accepted_new_starts_afresh : AcceptedNewStartsAfresh
accepted_new_starts_afresh session memory owners holders cores bytes entries h =
    let e = by_tests session memory owners holders cores bytes entries in
    subst (λ (o : LineOutcome). Afresh memory owners holders cores bytes entries o) (sym e)
    (new_afresh session memory owners holders cores bytes entries (fits session memory owners holders cores bytes entries) refl
    (ap (λ (o : LineOutcome). number_in o.answer) (sym e) ∙ h))

-- no machine stands
module _ (memory owners holders : List ℕ) where
  none_stands : (session : Session) (run : Machine → LineOutcome) → stands session ≡ false
      → once_begun session memory owners holders run ≡ line_refused NoMachine session memory owners holders
  none_stands session run b = go session.machine refl b
    where
      go : (m : Option Machine) → session.machine ≡ m → is_some m ≡ false
          → option_map_or run m (line_refused NoMachine session memory owners holders) ≡ line_refused NoMachine session memory owners holders
      go None e b = refl
      go (Some m) e b = absurd (true≢false b)

  before_begun : (session : Session) (c : Option Command) → stands session ≡ false → (c ≡ None → ⊥) → is_new c ≡ false
      → run_command session memory owners holders c ≡ line_refused NoMachine session memory owners holders
  unfolding run_command
  before_begun session None b u n = absurd (u refl)
  before_begun session (Some (New cores bytes entries)) b u n = absurd (true≢false n)
  before_begun session (Some (Give core operation)) b u n = none_stands session (λ m. give_line m memory owners holders core operation) b
  before_begun session (Some (Step core)) b u n = none_stands session (λ m. step_line m memory owners holders core) b
  before_begun session (Some (Poke a v)) b u n = none_stands session (λ m. poke_line m memory owners holders a v) b
  before_begun session (Some (Show a)) b u n = none_stands session (λ m. show_line m memory owners holders a) b

pub nine_before_ten : NineBeforeTen
unfolding run_line run_command
nine_before_ten session memory owners holders line =
    record {
      nine = λ e. ap (run_command session memory owners holders) e;
      ten = λ b u n. before_begun memory owners holders session (command_of line) b u n;
    }
