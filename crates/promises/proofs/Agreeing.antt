-- Demand 3, from the invariant of a run.
-- Assumes nothing.
use mathlib.Core.Logic.{inl, inr}
use mathlib.Core.List.{List}
use Rattle.rules.specs.declared.operations.Operation.{Operation}
use Rattle.rules.specs.declared.answers.Delivered.{Delivered}
use Rattle.rules.proofs.Phases.{Phase, rests, loads, asks, holds, reaches, ends, answer_at}
use Rattle.rules.proofs.Running.{ListsOk}
use Rattle.rules.proofs.Invariant.{run_inv}
use Rattle.promises.specs.Demand3.{AtMostOneMore, Demand3}

answers : (p : Phase) (gs os : List Operation) (ds ans : List Delivered) → ListsOk p gs ds os ans → AtMostOneMore ans ds
answers rests gs os ds ans t = inl t.1
answers (loads l) gs os ds ans t = inl t.1
answers (asks l) gs os ds ans t = inl t.1
answers (holds l) gs os ds ans t = inl t.1
answers (reaches l passed) gs os ds ans t = inl t.1
answers (ends l passed read) gs os ds ans t = inr (answer_at l.locking passed read, t.1)

operations : (p : Phase) (gs os : List Operation) (ds ans : List Delivered) → ListsOk p gs ds os ans → AtMostOneMore gs os
operations rests gs os ds ans t = inl t.0
operations (loads l) gs os ds ans t = inr (l.operation, t.0)
operations (asks l) gs os ds ans t = inr (l.operation, t.0)
operations (holds l) gs os ds ans t = inr (l.operation, t.0)
operations (reaches l passed) gs os ds ans t = inr (l.operation, t.0)
operations (ends l passed read) gs os ds ans t = inl t.0

pub demand_3 : Demand3
demand_3 fresh f calls =
    let inv = run_inv fresh f calls in
    record {
      memory_agrees = inv.memory;
      records_agree = inv.history;
      answers_agree = λ c. answers (inv.phase c) _ _ _ _ (inv.cores c).lists;
      operations_agree = λ c. operations (inv.phase c) _ _ _ _ (inv.cores c).lists;
    }
