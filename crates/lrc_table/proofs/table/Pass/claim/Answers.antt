use Rattle.std.proofs.Common.{length, ap, sym, ◌∙◌, arith}
use Rattle.lrc_table.proofs.Probing.{Claims-later, full_unnoted, Seeks-loads, Seeks-trans, spent_at, path_later, named_by}
use Rattle.lrc_table.proofs.table.Pass.claim.Goals as goal

pub returns-then-found-ne0-clause-seeks : goal.returns-then-found-ne0-clause-seeks
returns-then-found-ne0-clause-seeks g c = let b = c.load_bucket-found in
    Seeks-loads c.args.self.now b.new.self _ _ _ b.ensures.table b.ensures.loads b.ensures.notes

pub returns-then-found-ne0-clause-claims : goal.returns-then-found-ne0-clause-claims
returns-then-found-ne0-clause-claims g c = let b = c.load_bucket-found in
    let inside = c.requires.place in
    let e = ap (λ l. l.buckets) (b.ensures.loads.follows.layout ∙ c.requires.of.1) in
    (named_by b.new.self.view c.args.place _ (omega (arith, inside, e)) b.ensures.loads.found c.if-found-ne0.true, b.ensures.loads.made, λ _. full_unnoted c.args.self.now.view b.new.self.view _ _ b.ensures.notes c.if-found-ne0.true)

pub returns-then-published-quota-clause-seeks : goal.returns-then-published-quota-clause-seeks
returns-then-published-quota-clause-seeks g c = let b = c.load_bucket-found in
    Seeks-loads c.args.self.now b.new.self _ _ _ b.ensures.table b.ensures.loads b.ensures.notes

pub returns-then-published-quota-clause-claims : goal.returns-then-published-quota-clause-claims
returns-then-published-quota-clause-claims g c = let b = c.load_bucket-found in
    spent_at c.args.self.now b.new.self _ _ _ b.ensures.loads b.ensures.notes c.if-found-ne0.false (sym c.published.ensures.count ∙ (c.if-published-quota.true ∙ c.quota.ensures))

pub publish-requires-clause-path : goal.publish-requires-clause-path
publish-requires-clause-path g c = path_later c.args.self.now.view c.load_bucket-found.new.self.view _ _ _ c.requires.current c.load_bucket-found.ensures.loads.follows c.requires.path

pub returns-clause-seeks : goal.returns-clause-seeks
returns-clause-seeks g c = let b = c.load_bucket-found in
    Seeks-trans c.args.self.now b.new.self c.publish.new.self _ (Seeks-loads c.args.self.now b.new.self _ _ _ b.ensures.table b.ensures.loads b.ensures.notes) b.ensures.loads.made c.publish.ensures.seeks

pub returns-clause-claims : goal.returns-clause-claims
returns-clause-claims g c = let b = c.load_bucket-found in
    Claims-later c.args.self.now b.new.self c.publish.new.self _ c.args.place c.publish.result (Seeks-loads c.args.self.now b.new.self _ _ _ b.ensures.table b.ensures.loads b.ensures.notes) b.ensures.loads.made
    (λ used. absurd (c.if-published-quota.false (c.published.ensures.count ∙ (ap length b.ensures.loads.made ∙ (used ∙ sym (c.quota.ensures ∙ b.ensures.loads.follows.quota)))))) c.publish.ensures.claims
