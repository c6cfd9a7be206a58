use Rattle.std.proofs.Common.{rules, arith, ◌+◌, ◌≤◌, drop, length, ap, ◌∙◌}
use Rattle.std.proofs.lemmas.Grind.{common_steps}
use Rattle.mc_lane.specs.declared.stream.Counts.{Counts}
use Rattle.mc_lane.proofs.Pieces.{read_on, none_more}
use Rattle.mc_lane.proofs.memory_stream.MemoryStreamStream.read.Goals as goal

-- what was copied comes after what was given before
pub returns-clause-reads : goal.returns-clause-reads
returns-clause-reads c =
    let replies = c.self.inside.replies.items in
    let given = c.self.inside.given in
    let count = c.min-count.result in
    let within : given + count ≤ length replies = omega arith in
    let at = read_on replies c.copy_from_slice.new.self (drop count c.args.buffer.now) given count within
    (rw (← c.deref.ensures.value) c.copy_from_slice.ensures.after) in
    let counted = c.after_read-self-inside.ensures in
    rw (← c.self.view_is) (
      grind (arith, common_steps),
      record {
        reads = at;
        writes = search rules;
        failed_reads = ap (λ (k : Counts). k.failed_reads) counted ∙ none_more _;
        failed_writes = ap (λ (k : Counts). k.failed_writes) counted ∙ none_more _;
        ends = ap (λ (k : Counts). k.ends) counted;
      },
      c.finds_end-self-inside.ensures,
    )
