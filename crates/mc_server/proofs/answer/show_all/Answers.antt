use Rattle.std.proofs.Common.{[], ℕ, ◌++◌, List, map-id, subst, sym, ap, ◌∙◌, ◌≡◌}
use Rattle.std.proofs.{lemmas.Iterator.Adapters.YieldsList-from_vec, lemmas.Iterator.Consumers.YieldsList-so_far, lemmas.Iterator.Consumers.YieldsList-end}
use Rattle.mc_lane.specs.Streams.{no_counts}
use Rattle.mc_reader.specs.Asks.{Many}
use Rattle.mc_server.specs.{Answering.Is, Answers.MayShow, Answers.MayShowAll, Answers.MayWrite, Answers.MayBegin, Answers.end_line}
use Rattle.mc_server.proofs.{Putting.can_go_on, Putting.IsPut-twice, Putting.puts_err, Putting.puts_after, Shown.shown_more, Shown.shown_front}
use Rattle.mc_server.proofs.answer.show_all.Goals as goal

pub keys-preserved : goal.keys-preserved
keys-preserved g c =
    let before = c.keys.invariant.put in
    let block = c.in_default.ensures in
    let b = g.S.Stream.state c.keys.stream in
    let d = g.S.Stream.state c.show.new.stream in
    record {
      can_fail = can_go_on b d [] block.2.written block.2.carries c.keys.invariant.can_fail;
      put = (
        before.0 ++ block.0,
        shown_more c.args.with_cas c.keys.yielded c.in-Some.key before.0 block.0 before.1 block.1,
        IsPut-twice before.0 block.0 c.args.held.now.items c.keys.held.items c.show.new.held.items (g.S.Stream.state c.args.stream.now) b d
            no_counts before.2 block.2,
      );
    }

pub returns-in-Err : goal.returns-in-Err
returns-in-Err g c =
    let before = c.keys.invariant.put in
    let keys = c.args.keys.items in
    let asked = Many c.args.with_cas keys in
    let road = YieldsList-from_vec keys (cc) (cc) in
    let front = YieldsList-so_far road c.keys.yielded c.keys.key-iterator c.keys.yielded_by in
    puts_err before.0 (MayShow c.args.with_cas c.in-Some.key) (Is []) (MayWrite asked) (MayBegin asked) c.args.held.now.items c.keys.held.items
    c.show.new.held.items (g.S.Stream.state c.args.stream.now) (g.S.Stream.state c.keys.stream) (g.S.Stream.state c.show.new.stream) c.in-Err.why
    before.2 (shown_front c.args.with_cas keys c.keys.yielded before.0 (sym (map-id c.keys.yielded) ∙ front) before.1) c.in-Err.ensures

pub returns : goal.returns
returns g c =
    let before = c.keys.invariant.put in
    let keys = c.args.keys.items in
    let asked = Many c.args.with_cas keys in
    let road = YieldsList-from_vec keys (cc) (cc) in
    let front = YieldsList-so_far road c.keys.yielded c.keys.key-iterator c.keys.yielded_by in
    let end = YieldsList-end road c.keys.yielded c.keys.key-iterator c.keys.yielded_by c.next.result c.next.new.self c.in-None.is c.next.ensures.steps in
    let all : c.keys.yielded ≡ keys = sym (map-id c.keys.yielded) ∙ end.0 in
    puts_after before.0 (Is end_line) (Is []) (MayWrite asked) (MayBegin asked) c.args.held.now.items c.keys.held.items
    c.put.new.held.items (g.S.Stream.state c.args.stream.now) (g.S.Stream.state c.keys.stream) (g.S.Stream.state c.put.new.stream) c.put.result
    before.2 (λ t is. (before.0, subst (λ ks. MayShowAll c.args.with_cas ks before.0) all before.1, ap (λ (x : List ℕ). before.0 ++ x) is))
    (shown_front c.args.with_cas keys c.keys.yielded before.0 (sym (map-id c.keys.yielded) ∙ front) before.1) c.put.ensures
