use Rattle.std.proofs.Common.{◌≡◌, true, add-one, get_or, length, [], ap, ◌∙◌, sym}
use Rattle.std.proofs.{lemmas.List.get_or_read, Common.drop}
use Rattle.mc_linearize.specs.Standing.{may_queue_end, queue_left}
use Rattle.mc_linearize.proofs.Lefts.{end_at, end_more}
use Rattle.mc_linearize.proofs.standing.may_all_end.Goals as goal

pub returns-then-not-may_end : goal.returns-then-not-may_end
returns-then-not-may_end c =
    let queues = c.args.queues.now in
    let counts = c.args.counts.now in
    let client = c.clients.client in
    let queue : c.index-queues-client.result ≡ get_or queues client [] =
    get_or_read queues client c.index-queues-client.result c.clients-test.true c.index-queues-client.is [] in
    let ends : c.may_end.result ≡ may_queue_end (queue_left queues counts client) =
    c.may_end.ensures ∙ ap (λ l. may_queue_end (drop (get_or counts client 0) l)) queue in
    ((λ t. absurd (cc)), (λ h. let ended = end_at (length queues) client (queue_left queues counts) c.clients-test.true h in absurd (cc)))

pub clients-preserved : goal.clients-preserved
clients-preserved c =
    let queues = c.args.queues.now in
    let counts = c.args.counts.now in
    let client = c.clients.client in
    let queue : c.index-queues-client.result ≡ get_or queues client [] =
    get_or_read queues client c.index-queues-client.result c.clients-test.true c.index-queues-client.is [] in
    let ends : may_queue_end (queue_left queues counts client) ≡ true =
    sym (ap (λ l. may_queue_end (drop (get_or counts client 0) l)) queue) ∙ sym c.may_end.ensures ∙ c.if-not-may_end.false in
    rw (add-one client) (end_more client (queue_left queues counts) ends c.clients.invariant)
