-- What the code's reading of a subscript stands for.
use Rattle.gvn_key.specs.KeyText as text
use Rattle.gvn_key.specs.declared.parse.Next.{Next}
use Rattle.gvn_key.specs.declared.parse.Next.TheVariants.{More, Last, Wrong}

abbrev pub next_view : Next → text.Next
next_view (More value left) = text.More value left.now
next_view (Last value) = text.Last value
next_view (Wrong e) = text.Wrong e
