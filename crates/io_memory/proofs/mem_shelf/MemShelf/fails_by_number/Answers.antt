use Rattle.io_memory.proofs.mem_shelf.MemShelf.fails_by_number.Goals as goal

pub returns-then-self-lt18446744073709551615 : goal.returns-then-self-lt18446744073709551615
returns-then-self-lt18446744073709551615 c =
    let listed = rw c.deref.ensures.value at c.is_listed.ensures in
    rw (← c.self.view_is) (λ is_listed. (c.if-self-lt18446744073709551615.true, listed.0 is_listed), λ fails. listed.1 fails.1)
