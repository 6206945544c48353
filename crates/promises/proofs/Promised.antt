-- The promise, proved.
-- Assumes nothing.
use Rattle.rules.specs.Refusals.{refusal_number}
use Rattle.rules.specs.declared.refusals.Refusal.{Refusal}
use mathlib.Core.Path.{◌≡◌}
use native.Mathlib.Omega.{arith}
use Rattle.rules.proofs.Numbers.{refusals_numbered}
use Rattle.rules.proofs.Lawful.{entry_laws, refusal_laws, range_laws}
use Rattle.rules.proofs.Kinded.{kind_laws}
use Rattle.rules.proofs.Words.{word_laws}
use Rattle.archive.proofs.Blocks.{each_block_reads_back}
use Rattle.archive.proofs.Unique.{each_block_is_one, same_block}
use Rattle.archive.proofs.Wholes.{each_archive_reads_back, each_archive_is_one, same_archive}
use Rattle.archive.proofs.Refusing.{each_refusal_leaves}
use Rattle.archive.proofs.Runs.{never_out_of_ranges, each_run_is_an_archive, each_run_reads_back}
use Rattle.archive.proofs.Taken.{every_list_is_archived, full_is_refused, full_run_is_reached}
use Rattle.promises.specs.Promised.{Promised}
use Rattle.promises.proofs.MachineCalls.{machine_code, machine_asks_nothing, machine_numbered, machine_as_the_rules}
use Rattle.promises.proofs.ArchiveCalls.{archive_code, archive_asks_nothing, archive_numbered, archive_as_the_rules}
use Rattle.promises.proofs.CodeRuns.{code_runs}
use Rattle.promises.proofs.Determined.{determined}
use Rattle.promises.proofs.Decides.{written_rule}
use Rattle.promises.proofs.Conditional.{no_forbidden_success, named_cause}
use Rattle.promises.proofs.Answering.{answers_tell}
use Rattle.promises.proofs.Agreeing.{demand_3}
use Rattle.promises.proofs.Referring.{no_table, judged_by_history}
use Rattle.promises.proofs.Quiet.{refused_and_waiting, poke_writes, poke_ends_no_link}
use Rattle.promises.proofs.Stood.{standing}
use Rattle.promises.proofs.Tabled.{small_runs, met}
use Rattle.promises.proofs.Archiving.{records_are_good, runs_are_archived}

-- two refusals with one number are one
told_apart : (r s : Refusal) → refusal_number r ≡ refusal_number s → r ≡ s
told_apart r s e = grind arith

pub promised : Promised
promised =
    record {
      calls_end = record { machine = machine_code; machine_asks_nothing = machine_asks_nothing; archive = archive_code; archive_asks_nothing = archive_asks_nothing };
      refusals_named = record { machine = machine_numbered; archive = archive_numbered; not_0 = refusals_numbered; told_apart = told_apart };
      refusals_leave = record { machine = refusal_laws; writer = each_refusal_leaves };
      micro_steps = record { code = machine_as_the_rules; by_kind = kind_laws };
      no_forbidden_success = no_forbidden_success;
      named_cause = named_cause;
      answers_tell = answers_tell;
      reads_back =
          record { code = archive_as_the_rules; blocks = each_block_reads_back; archives = each_archive_reads_back; runs_are_archives = each_run_is_an_archive; runs = each_run_reads_back; lists = every_list_is_archived };
      only_one = record { block_is_encoding = each_block_is_one; one_block = same_block; archive_is_encoding = each_archive_is_one; one_archive = same_archive };
      code_runs = code_runs;
      demand_3 = demand_3;
      no_table = no_table;
      written_rule = written_rule;
      judged_by_history = judged_by_history;
      refused_and_waiting = refused_and_waiting;
      poke_writes = poke_writes;
      poke_ends_no_link = poke_ends_no_link;
      standing = standing;
      records_are_good = records_are_good;
      runs_are_archived = runs_are_archived;
      full_is_reached = full_run_is_reached;
      full_is_refused = full_is_refused;
      never_out_of_ranges = never_out_of_ranges;
      small_runs = small_runs;
      met = met;
      entry_laws = entry_laws;
      word_laws = word_laws;
      range_laws = range_laws;
      determined = determined;
    }
