pub mod HexLaws
pub mod BitsLaws
pub mod DataLaws
pub mod ReadLaws
pub mod WriteLaws
pub mod BackLaws
