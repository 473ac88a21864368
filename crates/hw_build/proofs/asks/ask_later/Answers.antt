use Rattle.std.proofs.Common.{rules, ◌≡◌, ◌++◌, ◌∷◌, [], Some, length}
use Rattle.hw_build.specs.declared.asks.Ask.{Ask}
use Rattle.hw_build.proofs.AskLists.{asks_later}
use Rattle.hw_build.proofs.asks.ask_later.Goals as goal

pub returns : goal.returns
returns c =
    let one : Ask = record { hub = c.args.want.feed.hub; want = Some c.in-Ok.number } in
    let place : c.in-Ok.number ≡ length c.args.asks.now.wants.items = search rules in
    let grown : c.push.new.self.items ≡ c.args.asks.now.list.items ++ one ∷ [] = c.in_ok-push.ensures.items in
    let added : c.push-2.new.self.items ≡ c.args.asks.now.wants.items ++ c.args.want ∷ [] = c.in_ok-push-2.ensures.items in
    asks_later c.args.asks.now.list.items c.push.new.self.items c.args.asks.now.wants.items c.push-2.new.self.items c.in-Ok.number c.args.want place grown added
