-- What holds after every list of calls from a fresh machine: memory and history are the reference machine's, each link and each owner mark is the history's, and each core is where its lock and its lists say.
-- The entry rule, and reading and writing a word, are never looked into here.
-- Assumes nothing.
use Rattle.std.proofs.Common.{◌≡◌, ℕ, ◌<◌, ◌≤◌, Bool, true, false, eqb, List, ◌∷◌, length, get_or, sym, refl, ap, ◌∙◌, subst, arith, eqb-true, if◌then◌else◌}
use borrow.Author.Tests.{eqb-false}
use Rattle.rules.specs.Sizes.{written}
use Rattle.rules.specs.Entry.{entry_of}
use Rattle.rules.specs.Ranges.{core_at}
use Rattle.rules.specs.Calls.{Outcome}
use Rattle.rules.specs.Laws.{Sound}
use Rattle.rules.specs.History.{History, Link, link_of, owner_of}
use Rattle.rules.specs.Reference.{Whole, refer, operations_of, answers_of}
use Rattle.rules.specs.Runs.{Call, handed, accessed, with_given, delivers}
use Rattle.rules.specs.declared.entry.GuestAddress.{GuestAddress}
use Rattle.rules.specs.declared.entry.EntryNumber.{EntryNumber}
use Rattle.rules.specs.declared.operations.Operation.{Operation}
use Rattle.rules.specs.declared.answers.Delivered.{Delivered}
use Rattle.rules.proofs.Phases.{place_of, Phase, rests, loads, asks, holds, reaches, ends, picture, marked, tested, answer_at}

-- inside an entry, between taking its lock and giving it back
abbrev pub inside_at : (GuestAddress → EntryNumber) → ℕ → Phase → Type 0
inside_at entry e rests = ⊥
inside_at entry e (loads l) = ⊥
inside_at entry e (asks l) = ⊥
inside_at entry e (holds l) = (entry (place_of l)).0 ≡ e
inside_at entry e (reaches l passed) = (entry (place_of l)).0 ≡ e
inside_at entry e (ends l passed read) = (entry (place_of l)).0 ≡ e

-- what a core's phase says of its entry's holder and owner: where it is inside, it holds the lock, and the owner is the history's but between steps 2 and 3
abbrev pub TableOk : (GuestAddress → EntryNumber) → List ℕ → List ℕ → History → ℕ → Phase → Type 0
TableOk entry owners holders h i rests = Unit {0}
TableOk entry owners holders h i (loads l) = Unit {0}
TableOk entry owners holders h i (asks l) = Unit {0}
TableOk entry owners holders h i (holds l) = (get_or holders (entry (place_of l)).0 0 ≡ written i) × (get_or owners (entry (place_of l)).0 0 ≡ owner_of entry (entry (place_of l)).0 h)
TableOk entry owners holders h i (reaches l passed) =
    (get_or holders (entry (place_of l)).0 0 ≡ written i) × (get_or owners (entry (place_of l)).0 0 ≡ marked i l.locking (owner_of entry (entry (place_of l)).0 h)) × (passed ≡ tested i l (link_of i h) (owner_of entry (entry (place_of l)).0 h))
TableOk entry owners holders h i (ends l passed read) = (get_or holders (entry (place_of l)).0 0 ≡ written i) × (get_or owners (entry (place_of l)).0 0 ≡ owner_of entry (entry (place_of l)).0 h)

-- and of its lists: the operations given and run, the answers of the reference and those delivered
abbrev pub ListsOk : Phase → List Operation → List Delivered → List Operation → List Delivered → Type 0
ListsOk rests gs ds os ans = (gs ≡ os) × (ans ≡ ds)
ListsOk (loads l) gs ds os ans = (gs ≡ l.operation ∷ os) × (ans ≡ ds)
ListsOk (asks l) gs ds os ans = (gs ≡ l.operation ∷ os) × (ans ≡ ds)
ListsOk (holds l) gs ds os ans = (gs ≡ l.operation ∷ os) × (ans ≡ ds)
ListsOk (reaches l passed) gs ds os ans = (gs ≡ l.operation ∷ os) × (ans ≡ ds)
ListsOk (ends l passed read) gs ds os ans = (gs ≡ os) × (ans ≡ answer_at l.locking passed read ∷ ds)

module _ (n : ℕ) (zeros : List ℕ) where
  abbrev pub rule : GuestAddress → EntryNumber
  rule = entry_of n

  pub record CoreOk (o : Outcome) (h : History) (ws : List Whole) (i : ℕ) (p : Phase) (gs : List Operation) (ds : List Delivered) : Type 0 where
    pub core : core_at o.called.machine i ≡ picture p (link_of i h)
    pub table : TableOk (entry_of n) o.owners o.holders h i p
    pub lists : ListsOk p gs ds (operations_of i ws) (answers_of (entry_of n) zeros i ws)
    pub held : (e : ℕ) → get_or o.holders e 0 ≡ written i → inside_at (entry_of n) e p

  pub record Inv (o : Outcome) (h : History) (ws : List Whole) (gs : ℕ → List Operation) (ds : ℕ → List Delivered) : Type 0 where
    pub sound : Sound o
    pub eight : length o.called.machine.cores ≡ 8
    pub same : o.called.machine.entries ≡ n
    pub memory : o.memory ≡ (refer (entry_of n) zeros ws).memory
    pub history : h ≡ (refer (entry_of n) zeros ws).history
    pub phase : ℕ → Phase
    pub cores : (i : ℕ) → CoreOk o h ws i (phase i) (gs i) (ds i)
    pub owners_small : (e : ℕ) → get_or o.owners e 0 ≤ o.called.machine.count
    pub holders_small : (e : ℕ) → get_or o.holders e 0 ≤ o.called.machine.count
    pub free : (e : ℕ) → e < n → get_or o.holders e 0 ≡ 0 → get_or o.owners e 0 ≡ owner_of (entry_of n) e h

  -- what a call ends, with the lists that it makes
  abbrev pub Next : Call → History → List Whole → (ℕ → List Operation) → (ℕ → List Delivered) → Outcome → Type 0
  Next call h ws gs ds x =
      Inv x (handed x.called.made h) (accessed call x.called.made gs ws) (λ i. with_given i call x.called.answer (gs i)) (λ i. delivers i call x.called.answer (ds i))

-- one number's phase renewed
abbrev pub renew : (ℕ → Phase) → ℕ → Phase → ℕ → Phase
renew phase c p i = if eqb i c then p else phase i

pub at_renewed : (P : ℕ → Phase → Type 0) (phase : ℕ → Phase) (c : ℕ) (p : Phase) → P c p → ((i : ℕ) → (i ≡ c → ⊥) → P i (phase i)) → (i : ℕ) → P i (renew phase c p i)
at_renewed P phase c p new old i = go (eqb i c) refl
  where
    go : (t : Bool) → eqb i c ≡ t → P i (if t then p else phase i)
    go true e = subst (λ (k : ℕ). P k p) (sym (eqb-true i c e)) new
    go false e = old i (eqb-false i c e)

-- two cores' marks, and no mark, differ
pub marks_differ : (i c : ℕ) → (i ≡ c → ⊥) → written i ≡ written c → ⊥
marks_differ i c d e = d (omega arith)

pub no_mark : (i : ℕ) → 0 ≡ written i → ⊥
no_mark i e = omega arith

-- the other cores stay as they are where a call touches neither them nor an entry that they are inside
module _ (n : ℕ) (zeros : List ℕ) (o x : Outcome) (h k : History) (ws vs : List Whole) (i : ℕ) where
  pub record Untouched (gs gs' : List Operation) (ds ds' : List Delivered) : Type 0 where
    pub core_same : core_at x.called.machine i ≡ core_at o.called.machine i
    pub link_same : link_of i k ≡ link_of i h
    pub operations_same : operations_of i vs ≡ operations_of i ws
    pub answers_same : answers_of (entry_of n) zeros i vs ≡ answers_of (entry_of n) zeros i ws
    pub given_same : gs' ≡ gs
    pub delivered_same : ds' ≡ ds
    pub inside_same : (e : ℕ) → get_or o.holders e 0 ≡ written i → (get_or x.holders e 0 ≡ written i) × (get_or x.owners e 0 ≡ get_or o.owners e 0) × (owner_of (entry_of n) e k ≡ owner_of (entry_of n) e h)
    pub back : (e : ℕ) → get_or x.holders e 0 ≡ written i → get_or o.holders e 0 ≡ written i

  table_kept : (p : Phase) → link_of i k ≡ link_of i h
      → ((e : ℕ) → get_or o.holders e 0 ≡ written i → (get_or x.holders e 0 ≡ written i) × (get_or x.owners e 0 ≡ get_or o.owners e 0) × (owner_of (entry_of n) e k ≡ owner_of (entry_of n) e h))
      → TableOk (entry_of n) o.owners o.holders h i p → TableOk (entry_of n) x.owners x.holders k i p
  table_kept rests link same t = tt
  table_kept (loads l) link same t = tt
  table_kept (asks l) link same t = tt
  table_kept (holds l) link same t = let s = same (entry_of n (place_of l)).0 t.0 in (s.0, s.1 ∙ t.1 ∙ sym s.2)
  table_kept (reaches l passed) link same t =
      let s = same (entry_of n (place_of l)).0 t.0 in
      (s.0, s.1 ∙ t.1 ∙ ap (marked i l.locking) (sym s.2), t.2 ∙ ap (λ (q : Link). tested i l q (owner_of (entry_of n) (entry_of n (place_of l)).0 h)) (sym link) ∙ ap (tested i l (link_of i k)) (sym s.2))
  table_kept (ends l passed read) link same t = let s = same (entry_of n (place_of l)).0 t.0 in (s.0, s.1 ∙ t.1 ∙ sym s.2)

  lists_kept : (p : Phase) {gs gs' os os' : List Operation} {ds ds' ans ans' : List Delivered} → gs' ≡ gs → ds' ≡ ds → os' ≡ os → ans' ≡ ans → ListsOk p gs ds os ans → ListsOk p gs' ds' os' ans'
  lists_kept rests a b c d t = (a ∙ t.0 ∙ sym c, d ∙ t.1 ∙ sym b)
  lists_kept (loads l) a b c d t = (a ∙ t.0 ∙ ap (λ (os : List Operation). l.operation ∷ os) (sym c), d ∙ t.1 ∙ sym b)
  lists_kept (asks l) a b c d t = (a ∙ t.0 ∙ ap (λ (os : List Operation). l.operation ∷ os) (sym c), d ∙ t.1 ∙ sym b)
  lists_kept (holds l) a b c d t = (a ∙ t.0 ∙ ap (λ (os : List Operation). l.operation ∷ os) (sym c), d ∙ t.1 ∙ sym b)
  lists_kept (reaches l passed) a b c d t = (a ∙ t.0 ∙ ap (λ (os : List Operation). l.operation ∷ os) (sym c), d ∙ t.1 ∙ sym b)
  lists_kept (ends l passed read) a b c d t = (a ∙ t.0 ∙ sym c, d ∙ t.1 ∙ ap (λ (ds : List Delivered). answer_at l.locking passed read ∷ ds) (sym b))

  pub untouched : {gs gs' : List Operation} {ds ds' : List Delivered} (p : Phase) → Untouched gs gs' ds ds' → CoreOk n zeros o h ws i p gs ds → CoreOk n zeros x k vs i p gs' ds'
  untouched p u ok =
      record {
        core = u.core_same ∙ ok.core ∙ ap (picture p) (sym u.link_same);
        table = table_kept p u.link_same u.inside_same ok.table;
        lists = lists_kept p u.given_same u.delivered_same u.operations_same u.answers_same ok.lists;
        held = λ e q. ok.held e (u.back e q);
      }
