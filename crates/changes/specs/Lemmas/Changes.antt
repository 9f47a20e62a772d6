-- The image that a put of a name leaves is the one that a put of its area leaves.
-- By the definitions, taken apart. Assumes nothing.
use Rattle.std.specs.Prelude.{◌≡◌, refl, List, ℕ}
use Rattle.layout.specs.declared.Layout.{Layout}
use Rattle.names.specs.Names.{area_of}
use Rattle.image.specs.Image.{put_image}
use Rattle.changes.specs.Changes.{put_area}

-- with a name's area it is put's image
pub put_area_is : (l : Layout) (img : List ℕ) (s : ℕ) (name : List ℕ) (type : ℕ) (content : List ℕ) → put_area l img s (area_of l name) type content ≡ put_image l img s name type content
unfolding put_area put_image
put_area_is l img s name type content = refl
