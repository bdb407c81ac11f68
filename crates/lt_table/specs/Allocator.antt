-- The allocator of a program.
use Rattle.std.specs.Prelude.{◌≡◌}
use Rattle.std.specs.declared.alloc.Global.{Global}

-- the global allocator: there is no other
unfoldable pub IsTheAllocator : Global → Type 0
IsTheAllocator g = (other : Global) → other ≡ g
