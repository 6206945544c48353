-- A store-conditional succeeds exactly if its core's link is its address and the owner of its entry is its core: the key of the run. The entry rule is any.
-- Assumes nothing.
use Rattle.std.proofs.Common.{◌≡◌, ℕ, Bool, true, false, not, ◌&&◌, eqb, [], ◌∷◌, sym, refl, ap, ◌∙◌, arith, eq-eqb, ne_eqb, eqb-true, if◌then◌else◌}
use borrow.Author.Tests.{eqb-false}
use Rattle.rules.specs.Sizes.{written}
use Rattle.rules.specs.Kinds.{LinkRule, keeps, links, unlinks, leaves, KindRule, rule_at, linking, unlinking, spoiling, mark_after}
use Rattle.rules.specs.History.{History, succeeds, Link, no_link, link_of, owner_of}
use Rattle.rules.specs.declared.entry.GuestAddress.{GuestAddress}
use Rattle.rules.specs.declared.entry.EntryNumber.{EntryNumber}
use Rattle.rules.specs.declared.answers.Record.{Record}
use Rattle.rules.proofs.Bools.{and_false, if_same}
use Rattle.rules.proofs.Shapes.{by_rule}

-- what one more access does to links and owner marks
module _ (i : ℕ) (r : Record) (h : History) where
  pub link_other : (r.core ≡ i → ⊥) → link_of i (r ∷ h) ≡ link_of i h
  unfolding link_of
  link_other other = rw (ne_eqb r.core i other)

  -- what it leaves its core with, by its kind's rule
  abbrev pub link_after : LinkRule → Link
  link_after keeps = link_of i h
  link_after links = record { linked = true; link = r.address }
  link_after unlinks = no_link

  pub link_own : r.core ≡ i → link_of i (r ∷ h) ≡ link_after (rule_at r.kind).link
  unfolding link_of
  link_own p = rw (eq-eqb _ _ p) (go (rule_at r.kind).link)
    where
      go : (l : LinkRule) → (if linking l then record { linked = true; link = r.address } else if unlinking l then no_link else link_of i h) ≡ link_after l
      go keeps = refl
      go links = refl
      go unlinks = refl

  pub link_quiet : (rule_at r.kind).link ≡ keeps → link_of i (r ∷ h) ≡ link_of i h
  unfolding link_of
  link_quiet p = rw (p, and_false (eqb r.core i))

module _ (entry : GuestAddress → EntryNumber) (e : ℕ) (r : Record) (h : History) where
  pub owner_elsewhere : ((entry r.address).0 ≡ e → ⊥) → owner_of entry e (r ∷ h) ≡ owner_of entry e h
  unfolding owner_of
  owner_elsewhere other = rw (ne_eqb (entry r.address).0 e other)

  pub owner_here : (entry r.address).0 ≡ e → owner_of entry e (r ∷ h) ≡ mark_after (rule_at r.kind).mark r.core (owner_of entry e h)
  unfolding owner_of
  owner_here here = rw (eq-eqb (entry r.address).0 e here)

  pub owner_quiet : (rule_at r.kind).mark ≡ leaves → owner_of entry e (r ∷ h) ≡ owner_of entry e h
  unfolding owner_of
  owner_quiet p = rw p (if_same (eqb (entry r.address).0 e))

-- The key: a store-conditional succeeds exactly if its core's link is its address and the owner of its entry is its core.
module _ (entry : GuestAddress → EntryNumber) (c : ℕ) (a : GuestAddress) where
  abbrev linkThere : Link → Bool
  linkThere k = k.linked && eqb k.link.0 a.0

  abbrev ownerHere : ℕ → Bool
  ownerHere owner = eqb owner (written c)

  -- what another core's mark, or none, is not
  not_mine : (k : ℕ) → (k ≡ c → ⊥) → ownerHere (written k) ≡ false
  not_mine k other = ne_eqb (written k) (written c) (λ e. other (omega arith))

  no_mark : ownerHere 0 ≡ false
  no_mark = ne_eqb 0 (written c) (λ e. omega arith)

  -- a store leaves the question of this core's mark as it was if the store is this core's, and else answers it by no
  own_store : (k owner : ℕ) → k ≡ c → ownerHere (if eqb owner (written k) then owner else 0) ≡ ownerHere owner
  own_store k owner e = go (eqb owner (written k)) refl
    where
      go : (t : Bool) → eqb owner (written k) ≡ t → ownerHere (if t then owner else 0) ≡ ownerHere owner
      go true p = refl
      go false p = no_mark ∙ sym (ne_eqb owner (written c) (λ q. eqb-false owner (written k) p (q ∙ ap written (sym e))))

  other_store : (k owner : ℕ) → (k ≡ c → ⊥) → ownerHere (if eqb owner (written k) then owner else 0) ≡ false
  other_store k owner other = go (eqb owner (written k)) refl
    where
      go : (t : Bool) → eqb owner (written k) ≡ t → ownerHere (if t then owner else 0) ≡ false
      go true p = ap ownerHere (eqb-true owner (written k) p) ∙ not_mine k other
      go false p = no_mark

  -- one access more, by its kind's rule
  module _ (r : Record) (h : History) (ih : succeeds entry c a h ≡ linkThere (link_of c h) && ownerHere (owner_of entry (entry a).0 h)) where
    abbrev owner : ℕ
    owner = owner_of entry (entry a).0 h

    abbrev Claim : (own same : Bool) (rule : KindRule) → Type 0
    Claim own same rule =
        (if own && linking rule.link then eqb r.address.0 a.0 else if own && unlinking rule.link then false else if not own && spoiling rule.mark && same then false else succeeds entry c a h)
        ≡ linkThere (if own && linking rule.link then record { linked = true; link = r.address } else if own && unlinking rule.link then no_link else link_of c h)
        && ownerHere (if same then mark_after rule.mark r.core owner else owner)

    -- this core's access: only its ll and its own store touch what is asked
    mine : r.core ≡ c → (same : Bool) → eqb (entry r.address).0 (entry a).0 ≡ same → (kind : ℕ) → Claim true same (rule_at kind)
    mine e same s = by_rule (Claim true same) (quiet same) (new_link (eqb r.address.0 a.0) refl) (own same) refl refl (quiet same) (quiet same)
      where
        quiet : (t : Bool) → succeeds entry c a h ≡ linkThere (link_of c h) && ownerHere (if t then owner else owner)
        quiet true = ih
        quiet false = ih

        own : (t : Bool) → succeeds entry c a h ≡ linkThere (link_of c h) && ownerHere (if t then if eqb owner (written r.core) then owner else 0 else owner)
        own true = rw (own_store r.core owner e) ih
        own false = ih

        mark : (t : Bool) → t ≡ true → ownerHere (if t then written r.core else owner) ≡ true
        mark t p = rw p (eq-eqb (written r.core) (written c) (ap written e))

        new_link : (t : Bool) → eqb r.address.0 a.0 ≡ t → t ≡ t && ownerHere (if same then written r.core else owner)
        new_link true p = sym (mark same (sym s ∙ eq-eqb (entry r.address).0 (entry a).0 (ap (λ (b : GuestAddress). (entry b).0) (λ i. record { 0 = eqb-true r.address.0 a.0 p i }))))
        new_link false p = refl

    -- another core's: what leaves the mark leaves all as it was, and after what does not the mark is not this core's
    theirs : (r.core ≡ c → ⊥) → (same : Bool) (kind : ℕ) → Claim false same (rule_at kind)
    theirs e false = by_rule (Claim false false) ih ih ih ih ih ih ih
    theirs e true = by_rule (Claim false true) ih (spoilt (not_mine r.core e)) (spoilt (other_store r.core owner e)) (spoilt no_mark) ih ih ih
      where
        spoilt : {mark : Bool} → mark ≡ false → false ≡ linkThere (link_of c h) && mark
        spoilt p = rw p (sym (and_false (linkThere (link_of c h))))

    whose : (own : Bool) → eqb r.core c ≡ own → Claim own (eqb (entry r.address).0 (entry a).0) (rule_at r.kind)
    whose true e = mine (eqb-true r.core c e) (eqb (entry r.address).0 (entry a).0) refl r.kind
    whose false e = theirs (eqb-false r.core c e) (eqb (entry r.address).0 (entry a).0) r.kind

  pub link_and_owner : (h : History) → succeeds entry c a h ≡ linkThere (link_of c h) && ownerHere (owner_of entry (entry a).0 h)
  unfolding succeeds link_of owner_of
  link_and_owner [] = refl
  link_and_owner (r ∷ h) = whose r h (link_and_owner h) (eqb r.core c) refl
