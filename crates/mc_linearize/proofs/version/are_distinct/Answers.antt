use Rattle.std.proofs.Common.{◌≡◌, ◌∙◌, ℕ, List, true, false, get_or, ap, sym}
use Rattle.std.proofs.lemmas.List.{get_or_default}
use Rattle.std.specs.HashSet.{contains}
use Rattle.mc_linearize.specs.declared.version.Seen.{Seen}
use Rattle.mc_linearize.proofs.Versions.{is_seen, version_of, seen_more, seen_twice, not_false, not_true}
use Rattle.mc_linearize.proofs.version.are_distinct.Goals as goal

pub returns-then-not-branch : goal.returns-then-not-branch
returns-then-not-branch c =
    let versions = c.args.versions.now in
    let i = c.versions.version-index in
    let v : Seen = record { key = c.in_ok-copy.field-0; number = c.version.inside.number } in
    let item : version_of v ≡ c.version-item.result = ap (λ (k : List ℕ). (k, c.version.inside.number)) c.in_ok-copy.ensures ∙ c.version.view_is in
    let at : get_or versions i (version_of v) ≡ version_of v =
    get_or_default versions i (version_of v) c.version-item.result c.versions-test.true ∙ sym c.version-item.is ∙ sym item in
    let has : contains is_seen c.versions.seen v ≡ true =
    not_false (contains is_seen c.versions.seen v) (sym c.in_ok-insert.ensures.added ∙ c.if-not-branch.true) in (
      (λ t. absurd (cc)),
      (λ d. absurd (seen_twice versions i v (contains is_seen c.versions.seen) c.versions-test.true at c.versions.invariant has d)),
    )

pub versions-preserved : goal.versions-preserved
versions-preserved c =
    let versions = c.args.versions.now in
    let i = c.versions.version-index in
    let v : Seen = record { key = c.in_ok-copy.field-0; number = c.version.inside.number } in
    let item : version_of v ≡ c.version-item.result = ap (λ (k : List ℕ). (k, c.version.inside.number)) c.in_ok-copy.ensures ∙ c.version.view_is in
    let at : get_or versions i (version_of v) ≡ version_of v =
    get_or_default versions i (version_of v) c.version-item.result c.versions-test.true ∙ sym c.version-item.is ∙ sym item in
    let unseen : contains is_seen c.versions.seen v ≡ false =
    not_true (contains is_seen c.versions.seen v) (sym c.in_ok-insert.ensures.added ∙ c.if-not-branch.false) in
    seen_more versions i v (contains is_seen c.versions.seen) (contains is_seen c.insert.new.self) c.versions-test.true at c.versions.invariant unseen
    c.in_ok-insert.ensures.updates.0
