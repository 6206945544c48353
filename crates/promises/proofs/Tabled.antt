-- The small runs, each computed by the rules.
-- Assumes nothing.
use mathlib.Core.Path.{refl}
use mathlib.Core.List.{[]}
use lib.ListN.{replicate}
use Rattle.rules.specs.Entry.{entry_of}
use Rattle.rules.specs.Sizes.{entries_fit}
use Rattle.rules.specs.Bytes.{read_bytes, write_bytes}
use Rattle.rules.specs.Word.{read_word, write_word}
use Rattle.rules.specs.Operations.{shape_of, kind_of}
use Rattle.rules.specs.Life.{micro_step, load_step, lock_step, mark_step, access_step, delivered}
use Rattle.rules.specs.Ranges.{core_fits, in_ranges, damaged}
use Rattle.rules.specs.Calls.{start_refusal, start_of, give_refusal, give_of, step_refusal, step_of, stepped, micro_step_at, word_refusal, poke_of}
use Rattle.rules.specs.Runs.{act, after, records}
use Rattle.archive.specs.Check.{fletcher}
use Rattle.promises.specs.Table.{Met, small, played, finals, word_after, SmallRuns}

pub small_runs : SmallRuns
unfolding small played finals word_after act after start_of start_refusal give_of give_refusal step_of step_refusal stepped micro_step_at word_refusal poke_of in_ranges core_fits damaged entries_fit entry_of read_word write_word read_bytes write_bytes micro_step load_step lock_step mark_step access_step delivered shape_of kind_of fletcher
small_runs =
    ((refl, refl), ((refl, refl), ((refl, refl), ((refl, refl), ((refl, refl), ((refl, refl), ((refl, refl), ((refl, refl), ((refl, refl), (refl, (refl, tt)))))))))))

pub met : Met
unfolding records small played finals word_after act after start_of start_refusal give_of give_refusal step_of step_refusal stepped micro_step_at word_refusal poke_of in_ranges core_fits damaged entries_fit entry_of read_word write_word read_bytes write_bytes micro_step load_step lock_step mark_step access_step delivered shape_of kind_of fletcher
met =
    record {
      fresh = record { count = 3; memory = replicate 64 0; owners = replicate 4 0; holders = replicate 4 0; accepted = refl; started = refl };
      success = (_, _, record { later = []; split = refl }, refl);
      failure = (_, _, record { later = []; split = refl }, refl);
      delivers_0 = (_, refl, refl);
      delivers_1 = (_, refl, refl);
    }
