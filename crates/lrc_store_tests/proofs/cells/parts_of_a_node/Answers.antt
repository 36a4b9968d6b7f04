use Rattle.std.proofs.Common.{◌≡◌, ℕ, [], ◌∷◌, ◌∙◌, ap, refl}
use Rattle.lrc_store.specs.Cells.{nil}
use Rattle.lrc_store.specs.Standing.{Standing, Stands, meant}
use Rattle.lrc_code.specs.Forms.{more_cell, list_cell, node_cell}
use Rattle.lrc_store.proofs.Known.{stands-meant, stands-known, kept-meant}
use Rattle.lrc_store_tests.proofs.cells.parts_of_a_node.Goals as goal

-- a node with one child
one-kid : (s t u : Standing) (five none kids node : ℕ) → Stands s none nil → Stands t kids (more_cell (meant s five) (meant s none)) → Stands u node (node_cell 7 (meant t kids)) →
    meant u node ≡ node_cell 7 (list_cell (meant s five ∷ []))
one-kid s t u five none kids node e f h =
    stands-meant u node _ h ∙ ap (node_cell 7) (stands-meant t kids _ f ∙ ap (more_cell (meant s five)) (stands-meant s none nil e))

pub production_of-production-requires-clause-node : goal.production_of-production-requires-clause-node
production_of-production-requires-clause-node g c =
    let s = g.S.Store.state c.int.new.self in
    let t = g.S.Store.state c.put_list.new.store in
    let u = g.S.Store.state c.put_node.new.store in
    let five = c.in_ok-five.five.0 in (
      7,
      (
        meant s five ∷ [],
        one-kid s t u five c.nil_in-nil.result.0 c.in_ok-kids.kids.0 c.in_ok-node.node.0
            c.nil_in-nil.ensures.stands c.in_ok-kids.ensures.builds.ok.stands c.in_ok-node.ensures.builds.ok.stands,
      ),
    )

pub kid_of-kid-requires-clause-kid : goal.kid_of-kid-requires-clause-kid
kid_of-kid-requires-clause-kid g c =
    let s = g.S.Store.state c.int.new.self in
    let t = g.S.Store.state c.put_list.new.store in
    let u = g.S.Store.state c.put_node.new.store in
    let v = g.S.Store.state c.production_of-production.new.store in
    let five = c.in_ok-five.five.0 in
    let node = c.in_ok-node.node.0 in
    let stays = kept-meant u v node c.production_of-production.ensures.reads.stays.lasts.known (stands-known u node _ c.in_ok-node.ensures.builds.ok.stands) in (
      meant s five,
      (
        7,
        meant s five ∷ [],
        stays ∙ one-kid s t u five c.nil_in-nil.result.0 c.in_ok-kids.kids.0 node
            c.nil_in-nil.ensures.stands c.in_ok-kids.ensures.builds.ok.stands c.in_ok-node.ensures.builds.ok.stands,
        refl,
      ),
    )
