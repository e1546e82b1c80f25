-- The contents of block RAMs without where they lie in memory.
use Rattle.std.specs.Prelude.{Bool, List, map, Vec}
use Rattle.std.specs.declared.alloc.Global.{Global}
use Rattle.ice_base.specs.declared.number.TileAt.{TileAt}

abbrev pub content_view : TileAt × Vec (List Bool) Global → TileAt × List (List Bool)
content_view held = (held.0, held.1.items)

abbrev pub contents_view : List (TileAt × Vec (List Bool) Global) → List (TileAt × List (List Bool))
contents_view all = map content_view all
