pub mod SameNeeds
pub mod SameRooms
pub mod ProgramRooms
pub mod SameParts
