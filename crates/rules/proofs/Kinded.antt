-- A micro-step writes, links and ends its own link as the kind of its record says.
-- Assumes nothing.
use Rattle.std.proofs.Common.{◌≡◌, ℕ, Bool, true, false, eqb, Option, Some, None, refl, ap, ◌∙◌}
use Rattle.rules.specs.Kinds.{rule_at}
use Rattle.rules.specs.Operations.{shape_of, kind_of}
use Rattle.rules.specs.Life.{step_by, micro_step, load_step, lock_step, mark_step, access_step}
use Rattle.rules.specs.Laws.{writes_made, linked_made, link_made, KindLaws}
use Rattle.rules.specs.declared.operations.Shape.{Shape}
use Rattle.rules.specs.declared.operations.Shape.TheVariants.{Load, Locks}
use Rattle.rules.specs.declared.operations.Locking.{Locking}
use Rattle.rules.specs.declared.operations.Locking.TheVariants.{Ll, Store, Sc}
use Rattle.rules.specs.declared.cores.Core.{Core}
use Rattle.rules.specs.declared.cores.MicroStep.{MicroStep}
use Rattle.rules.proofs.Numbers.{of_both}
use Rattle.rules.proofs.Shapes.{shape_rule, rule_by_shape}

-- as the kind of its record says, of a core
pub record ByKind (c : Core) (s : MicroStep) : Type 0 where
  pub writes : s.writes ≡ writes_made s.made
  pub linked : s.core.linked ≡ linked_made s.made c
  pub link : s.core.link ≡ link_made s.made c

module _ (me : ℕ) (c : Core) (owner holder word : ℕ) where
  -- the rule of the kind that its access makes is its shape's
  rule_is : {s : Option Shape} → shape_of c.operation ≡ s → rule_at (kind_of c.operation c.passed) ≡ shape_rule s c.passed
  rule_is e = rule_by_shape c.operation c.passed ∙ ap (λ (s : Option Shape). shape_rule s c.passed) e

  quiet : {s : MicroStep} → s.made ≡ None → s.writes ≡ false → s.core.linked ≡ c.linked → s.core.link ≡ c.link → ByKind c s
  quiet made writes linked link = record { writes = rw made writes; linked = rw made linked; link = rw made link }

  accessed : (l : Locking) → shape_of c.operation ≡ Some (Locks l) → ByKind c (access_step l me c owner holder word)
  unfolding access_step
  accessed Ll e = record { writes = rw (rule_is e); linked = rw (rule_is e); link = rw (rule_is e) }
  accessed Store e = record { writes = rw (rule_is e); linked = rw (rule_is e); link = rw (rule_is e) }
  accessed Sc e = go c.passed (rule_is e) refl
    where
      go : (p : Bool) → rule_at (kind_of c.operation c.passed) ≡ shape_rule (Some (Locks Sc)) p → c.passed ≡ p → ByKind c (access_step Sc me c owner holder word)
      go true r q = record { writes = rw (r, q); linked = rw r; link = rw r }
      go false r q = record { writes = rw (r, q); linked = rw r; link = rw r }

  marked : (l : Locking) → ByKind c (mark_step l me c owner holder)
  unfolding mark_step
  marked Ll = quiet refl refl refl refl
  marked Store = quiet refl refl refl refl
  marked Sc = quiet refl refl refl refl

  by_kind : ByKind c (micro_step me c owner holder word)
  unfolding micro_step load_step lock_step
  by_kind = go (shape_of c.operation) refl
    where
      P : MicroStep → Type 0
      P s = ByKind c s

      go : (s : Option Shape) → shape_of c.operation ≡ s → P (step_by s me c owner holder word)
      go None e = quiet refl refl refl refl
      go (Some Load) e = record { writes = rw (rule_is e); linked = rw (rule_is e); link = rw (rule_is e) }
      go (Some (Locks l)) e =
          of_both P (eqb c.next 1) (of_both P (eqb holder 0) (quiet refl refl refl refl) (quiet refl refl refl refl))
          (of_both P (eqb c.next 2) (marked l) (of_both P (eqb c.next 3) (accessed l e) (quiet refl refl refl refl)))

pub kind_laws : KindLaws
kind_laws =
    record {
      writes_by_kind = λ me c owner holder word occurs. (by_kind me c owner holder word).writes;
      linked_by_kind = λ me c owner holder word occurs. (by_kind me c owner holder word).linked;
      link_by_kind = λ me c owner holder word occurs. (by_kind me c owner holder word).link;
    }
